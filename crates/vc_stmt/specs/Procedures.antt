-- What the code of a procedure does, from the begin of a call to its return.
use Rattle.std.specs.Prelude.{◌≡◌, ℕ, ◌<◌, ◌≤◌, false, List, [], length, map, Some, None}
use Rattle.std.specs.Prelude.{slice_get}
use Rattle.std.specs.List.{list_any}
use Rattle.pra_base.specs.declared.code.VProc.{VProc}
use Rattle.ob_syntax.specs.declared.checked.Checked.{Checked}
use Rattle.ob_syntax.specs.declared.checked.CheckedProc.{CheckedProc}
use Rattle.ob_syntax.specs.declared.checked.Param.{Param}
use Rattle.ob_mean.specs.Statements as mean
use Rattle.ob_mean.specs.Statements.{Around, exec_all}
use Rattle.ob_mean.specs.declared.store.LiveCall.{LiveCall}
use Rattle.vc_code.specs.Value.{Words}
use Rattle.vc_code.specs.Machine.{State, is_param, returned}
use Rattle.vc_code.specs.Selected.{Vars, begun, code_of}
use Rattle.vc_build.specs.Grow.{count}
use Rattle.vc_build.specs.Runs.{Codes, runs}
use Rattle.vc_call.specs.Begins.{HasBegun}
use Rattle.vc_relation.specs.Homes.{in_variable}
use Rattle.vc_relation.specs.Relation.{Represents}
use Rattle.vc_select.specs.Selects.{selected_module}
use Rattle.vc_typed.specs.TypedModules.{IsSelectable}
use Rattle.vc_stmt.specs.Calls.{CallsFollow}
use Rattle.vc_stmt.specs.Completes.{Shows, Completes}

-- The running call of a procedure is at the first instruction of its code, with these arguments.
-- Where its parameters have them, and its locals and aggregates are 0, it has the meaning's store.
pub record AtEntry
    (program : Checked) (w : Codes) (p : ℕ) (proc : CheckedProc) (calls : List LiveCall)
    (waiting : List Vars) (m : mean.State) (s : State Vars) : Type 0 where
  pub pushed : Words
  pub top : s.top ≡ begun p (code_of w.procs p) pushed
  pub going : s.over ≡ None
  pub compared : s.compared ≡ None
  pub no_more : s.pushed ≡ []
  pub below : map (λ c. c.home) s.below ≡ waiting
  pub shows : Shows m s
  pub represents : (n : State Vars) → HasBegun (selected_module program w) p proc pushed n →
      n.below ≡ s.below → n.globals ≡ s.globals →
      Represents (selected_module program w) calls m.store n

-- The statements of the running call are done, and the next step is its return.
pub record AtReturn
    (program : Checked) (w : Codes) (calls : List LiveCall) (waiting : List Vars)
    (m : mean.State) (s : State Vars) : Type 0 where
  pub step : runs w 1 s ≡ returned s s.below
  pub going : s.over ≡ None
  pub compared : s.compared ≡ None
  pub pushed : s.pushed ≡ []
  pub below : map (λ c. c.home) s.below ≡ waiting
  pub represents : Represents (selected_module program w) calls m.store s
  pub shows : Shows m s

-- The code does what the procedure's statements mean, where the calls in it do. A parameter that is
-- in the cell of its argument has no variable.
pub record Embodies (program : Checked) (p : ℕ) (code : VProc) : Type 0 where
  pub some : 0 < count code
  pub cells : (proc : CheckedProc) (k : ℕ) (param : Param) →
      slice_get program.procs p ≡ Some proc → slice_get proc.params k ≡ Some param →
      in_variable param ≡ false → list_any (is_param k) code.vars ≡ false
  pub means : (w : Codes) (least : ℕ) (proc : CheckedProc) (a : Around) (waiting : List Vars)
      (m : mean.State) (s : State Vars) → IsSelectable program → code_of w.procs p ≡ code →
      slice_get program.procs p ≡ Some proc → AtEntry program w p proc a.calls waiting m s →
      least ≤ a.turns → CallsFollow program w least a →
      Completes w s least (AtReturn program w a.calls waiting) (exec_all program proc.body a m)

-- One code for each procedure of the module, in order.
pub record AreEmbodied (program : Checked) (codes : List VProc) : Type 0 where
  pub as_many : length codes ≡ length program.procs
  pub each : (p : ℕ) (code : VProc) → slice_get codes p ≡ Some code → Embodies program p code
