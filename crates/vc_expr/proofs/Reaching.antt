-- What is reached, put together.
use Rattle.std.proofs.Common.{Result, Ok, Err}
use Rattle.pra_base.specs.declared.event.TrapKind.{TrapKind}
use Rattle.vc_code.specs.Machine.{Activation, State, with_top}
use Rattle.vc_code.specs.Selected.{Vars}
use Rattle.vc_build.specs.Runs.{Codes, Reaches, Yields}
use Rattle.vc_build.proofs.Steps.{reaches_on}

-- what is reached is more
pub reaches_as : (w : Codes) (s : State Vars) (Q R : Activation Vars → Type 0) → Reaches w s Q →
    ((c : Activation Vars) → Q c → R c) → Reaches w s R
reaches_as w s Q R r go =
    record { steps = r.steps; call = r.call; there = r.there; good = go r.call r.good }

pub yields_as : {A : Type 0} (w : Codes) (s : State Vars) (Q R : A → Activation Vars → Type 0)
    (r : Result A TrapKind) → Yields w s Q r → ((x : A) (c : Activation Vars) → Q x c → R x c) →
    Yields w s R r
yields_as w s Q R (Ok x) y go = reaches_as w s (Q x) (R x) y (go x)
yields_as w s Q R (Err trap) y go = y

-- and again, and more
pub reaches_then : (w : Codes) (s : State Vars) (Q R : Activation Vars → Type 0) → Reaches w s Q →
    ((c : Activation Vars) → Q c → Reaches w (with_top s c) R) → Reaches w s R
reaches_then w s Q R r go = reaches_on w s Q (λ (u : Unit {0}). R) (Ok tt) r go
