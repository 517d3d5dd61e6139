-- What selection of a body takes of the calls in it: each call does what it means.
use Rattle.std.specs.Prelude.{◌≡◌, ℕ, List, [], ◌∷◌, map, Some, None, slice_get}
use Rattle.ob_syntax.specs.declared.checked.Checked.{Checked}
use Rattle.ob_syntax.specs.declared.checked.CheckedProc.{CheckedProc}
use Rattle.ob_mean.specs.Statements as mean
use Rattle.ob_mean.specs.Statements.{Around}
use Rattle.ob_mean.specs.declared.store.Argument.{Argument}
use Rattle.ob_mean.specs.declared.store.LiveCall.{LiveCall}
use Rattle.vc_code.specs.Machine.{Activation, State, enters, live_in, with_top}
use Rattle.vc_code.specs.Selected.{Vars, selected}
use Rattle.vc_build.specs.Runs.{Codes, runs}
use Rattle.vc_relation.specs.Relation.{Represents}
use Rattle.vc_call.specs.Begins.{ArePushed}
use Rattle.vc_select.specs.Selects.{selected_module}
use Rattle.vc_stmt.specs.Completes.{Shows, Completes}

-- The next step is the Call of a procedure with these arguments. Behind it the caller goes on at
-- the call c.
pub record StandsAtCall
    (program : Checked) (w : Codes) (calls : List LiveCall) (p : ℕ) (args : List Argument)
    (c : Activation Vars) (m : mean.State) (s : State Vars) : Type 0 where
  pub step : runs w 1 s ≡ enters (selected w.procs w.frames) (λ xs. Some c) p s
  pub going : s.over ≡ None
  pub represents : Represents (selected_module program w) calls m.store (with_top s c)
  pub shows : Shows m s
  pub proc : CheckedProc
  pub there : slice_get program.procs p ≡ Some proc
  pub pushed : ArePushed (selected_module program w) calls proc.params args s.pushed

-- The call has returned: the live calls stand where they stood, with their variables. Words of the
-- objects of any of them may be others.
pub record HasReturned
    (program : Checked) (w : Codes) (calls : List LiveCall) (c : Activation Vars)
    (below : List (Activation Vars)) (m : mean.State) (s : State Vars) : Type 0 where
  pub going : s.over ≡ None
  pub compared : s.compared ≡ None
  pub pushed : s.pushed ≡ []
  pub homes : map (λ d. d.home) (live_in s) ≡ map (λ d. d.home) (c ∷ below)
  pub represents : Represents (selected_module program w) calls m.store s
  pub shows : Shows m s

-- Each call that the running procedure makes does what it means, and goes on for so many steps at
-- least where a budget of the meaning runs out in it. So selection of one procedure's body knows
-- nothing of the code of others; that all calls do is an induction on how deep they stand.
pub record CallsFollow (program : Checked) (w : Codes) (least : ℕ) (a : Around) : Type 0 where
  pub follows : (p : ℕ) (args : List Argument) (c : Activation Vars) (m : mean.State)
      (s : State Vars) → StandsAtCall program w a.calls p args c m s →
      Completes w s least (HasReturned program w a.calls c s.below) (a.call p args m)
