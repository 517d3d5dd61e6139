-- The live calls as the executable machine has them, and the bytes of frames below each.
use Rattle.std.specs.Prelude.{◌≡◌, ℕ, List, [], ◌∷◌, ◌++◌, map, reverse, take, slice_get}
use Rattle.std.specs.Prelude.{Option, Some, None}
use Rattle.pra_base.specs.declared.code.VProc.{VProc}
use Rattle.pra_base.specs.declared.ids.VarId.{VarId}
use Rattle.vc_code.specs.Machine.{Activation, After, depth}
use Rattle.vc_code.specs.Selected.{Vars, shape, written}
use Rattle.vc_run.specs.declared.live.LiveCall.{LiveCall}

abbrev pub call_of : LiveCall → Activation Vars
call_of c = record {
  proc = c.proc.0;
  aggregates = c.aggregates.items;
  args = c.arguments.items;
  home = record { block = c.block.0; index = c.index; held = c.held.items };
}

-- the calls that wait, the latest first
abbrev pub calls_of : List LiveCall → List (Activation Vars)
calls_of calls = reverse (map call_of calls)

-- ---- what a call writes

-- what up to two targets are
abbrev pub listed : Option VarId × Option VarId → List ℕ
listed (None, w) = []
listed (Some v, None) = v.0 ∷ []
listed (Some v, Some w) = v.0 ∷ w.0 ∷ []

-- the call behind its instruction, which writes these variables
abbrev pub after : LiveCall → Option VarId × Option VarId → After Vars
after c to = λ xs. written (call_of c) (listed to) xs

-- ---- the calls that wait, as contracts see them

-- the bytes of each procedure's frame, and the calls, the module's body first
pub record Below : Type 0 where
  pub frames : List ℕ
  pub calls : List (Activation Vars)

abbrev pub below_of : List ℕ → List LiveCall → Below
below_of frames calls = record { frames = frames; calls = map call_of calls }

abbrev pub with_waiting : Below → List (Activation Vars) → Below
with_waiting b calls = record { frames = b.frames; calls = calls }

-- the latest call goes, if there is one
abbrev pub Popped : Option LiveCall → Below → Below → Type 0
Popped None old new = (old.calls ≡ []) × (new ≡ old)
Popped (Some c) old new = (new.frames ≡ old.frames) × (old.calls ≡ new.calls ++ call_of c ∷ [])

-- the bytes of all their frames, and of those below each, whatever the code is
pub record AreSummed (frames : List ℕ) (calls : List LiveCall) (bytes : ℕ) : Type 0 where
  pub all : (procs : List VProc) → bytes ≡ depth (shape procs frames) (calls_of calls)
  pub each : (procs : List VProc) (n : ℕ) (c : LiveCall) → slice_get calls n ≡ Some c →
      c.under ≡ depth (shape procs frames) (calls_of (take n calls))
