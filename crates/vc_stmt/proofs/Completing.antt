-- Runs that complete, one after the other.
use Rattle.std.proofs.Common.{◌≡◌, ℕ, ◌+◌, ◌≤◌, Some, None, Result, Ok, Err, refl, sym, ap, ◌∙◌}
use Rattle.std.proofs.Common.{subst, arith}
use Rattle.pra_base.specs.RunEnd.{RunEnd}
use Rattle.pra_base.specs.RunEnd as run
use Rattle.pra_base.specs.declared.event.TrapKind.{TrapKind}
use Rattle.ob_mean.specs.Statements as mean
use Rattle.ob_mean.specs.Statements.{Completion, Normal, Trapped, Going, Run, then_do, with}
use Rattle.vc_code.specs.Machine.{Activation, State, step, with_top, ended}
use Rattle.vc_code.specs.Selected.{Vars, selected}
use Rattle.vc_build.specs.Runs.{Codes, runs, Reaches, Yields}
use Rattle.vc_build.proofs.Steps.{run_more}
use Rattle.vc_stmt.specs.Completes.{Shows, Comes, HasEnding, Completes}

module _ (w : Codes) (s t : State Vars) (k : ℕ) (there : runs w k s ≡ t) where
  pub comes_after : (least low : ℕ) (Q : State Vars → Type 0) → least ≤ k + low → Comes w t low Q →
      Comes w s least Q
  comes_after least low Q le y = record {
    steps = k + y.steps;
    enough = omega (arith, le, y.enough);
    good = subst Q (sym (run_more (step (selected w.procs w.frames)) k y.steps s
        ∙ ap (runs w y.steps) there)) y.good;
  }

  -- what completes behind some steps completes
  pub completes_after : (least low : ℕ) (Q : mean.State → State Vars → Type 0) (o : Completion) →
      least ≤ k + low → Completes w t low Q o → Completes w s least Q o
  completes_after least low Q (Normal m) le y = comes_after 0 0 (Q m) (omega arith) y
  completes_after least low Q (Trapped trap m) le y =
      comes_after 0 0 (HasEnding (Some (run.Trapped trap)) m) (omega arith) y
  completes_after least low Q (Going m) le y = comes_after least low (HasEnding None m) le y

-- less is asked of a run that goes on
pub completes_fewer : (w : Codes) (s : State Vars) (least low : ℕ)
    (Q : mean.State → State Vars → Type 0) (o : Completion) → low ≤ least →
    Completes w s least Q o → Completes w s low Q o
completes_fewer w s least low Q o le y = completes_after w s s 0 refl low least Q o
    (omega (arith, le)) y

-- where the run stands already
pub comes_here : (w : Codes) (s : State Vars) (Q : State Vars → Type 0) → Q s → Comes w s 0 Q
comes_here w s Q good = record { steps = 0; enough = omega arith; good = good }

-- one after the other
pub completes_then : (w : Codes) (s : State Vars) (least : ℕ)
    (Q R : mean.State → State Vars → Type 0) (o : Completion) (next : Run) →
    Completes w s least Q o →
    ((m : mean.State) (t : State Vars) → Q m t → Completes w t least R (next m)) →
    Completes w s least R (then_do o next)
completes_then w s least Q R (Normal m) next y go = completes_after w s (runs w y.steps s) y.steps
    refl least least R (next m) (omega arith) (go m (runs w y.steps s) y.good)
completes_then w s least Q R (Trapped trap m) next y go = y
completes_then w s least Q R (Going m) next y go = y

-- what is asked of the state at the end may be less
pub completes_as : (w : Codes) (s : State Vars) (least : ℕ) (Q R : mean.State → State Vars → Type 0)
    (o : Completion) → ((m : mean.State) (t : State Vars) → Q m t → R m t) →
    Completes w s least Q o → Completes w s least R o
completes_as w s least Q R (Normal m) go y =
    record { steps = y.steps; enough = y.enough; good = go m (runs w y.steps s) y.good }
completes_as w s least Q R (Trapped trap m) go y = y
completes_as w s least Q R (Going m) go y = y

-- the machine shows the same whatever runs, and whatever was compared
pub shows_over : (m : mean.State) (s t : State Vars) → t.input ≡ s.input → t.events ≡ s.events →
    t.taken ≡ s.taken → Shows m s → Shows m t
shows_over m s t input events taken shows =
    record {
      input = input ∙ shows.input;
      words = shows.words;
      events = events ∙ shows.events;
      taken = taken ∙ shows.taken;
    }

-- behind a value, or a trap in its place
pub completes_value : {A : Type 0} (w : Codes) (s : State Vars) (least : ℕ) (m : mean.State)
    (Q : A → Activation Vars → Type 0) (R : mean.State → State Vars → Type 0)
    (r : Result A TrapKind) (h : A → Completion) →
    Shows m s → Yields w s Q r →
    ((x : A) (c : Activation Vars) → Q x c → Completes w (with_top s c) least R (h x)) →
    Completes w s least R (with r m h)
completes_value w s least m Q R (Ok x) h shows y go =
    completes_after w s (with_top s y.call) y.steps y.there least least R (h x) (omega arith)
    (go x y.call y.good)
completes_value w s least m Q R (Err trap) h shows y go =
    let stopped : State Vars = ended (with_top s y.call) (run.Trapped trap) in
    record {
      steps = y.steps;
      enough = omega arith;
      good = subst (HasEnding (Some (run.Trapped trap)) m) (sym y.there)
          (record { over = refl; shows = shows_over m s stopped refl refl refl shows });
    }

-- the same where code behind it is only reached
pub completes_reached : (w : Codes) (s : State Vars) (least : ℕ) (Q : Activation Vars → Type 0)
    (R : mean.State → State Vars → Type 0) (o : Completion) →
    Reaches w s Q → ((c : Activation Vars) → Q c → Completes w (with_top s c) least R o) →
    Completes w s least R o
completes_reached w s least Q R o y go = completes_after w s (with_top s y.call) y.steps y.there
    least least R o (omega arith) (go y.call y.good)

-- behind what is done as it should be there may be more steps
pub completes_behind : (w : Codes) (s : State Vars) (least : ℕ)
    (Q R : mean.State → State Vars → Type 0) (o : Completion) → Completes w s least Q o →
    ((m : mean.State) (t : State Vars) → Q m t → Completes w t 0 R (Normal m)) →
    Completes w s least R o
completes_behind w s least Q R (Normal m) y go = completes_after w s (runs w y.steps s) y.steps refl
    0 0 R (Normal m) (omega arith) (go m (runs w y.steps s) y.good)
completes_behind w s least Q R (Trapped trap m) y go = y
completes_behind w s least Q R (Going m) y go = y
