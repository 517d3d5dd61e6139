-- What code that was added for statements does.
use Rattle.std.specs.Prelude.{◌≡◌, ℕ, ◌≤◌, Bool, true, List, [], map}
use Rattle.pra_base.specs.declared.code.VProc.{VProc}
use Rattle.ob_mean.specs.Statements as mean
use Rattle.ob_mean.specs.Statements.{Around, Execution}
use Rattle.ob_mean.specs.declared.store.LiveCall.{LiveCall}
use Rattle.vc_code.specs.Machine.{State}
use Rattle.vc_code.specs.Selected.{Vars, code_of}
use Rattle.vc_build.specs.Grow.{Grows}
use Rattle.vc_build.specs.Runs.{Codes}
use Rattle.vc_select.specs.declared.target.Setting.{Setting}
use Rattle.vc_select.specs.Selects.{Starts, Extends}
use Rattle.vc_stmt.specs.Completes.{Shows, Completes}
use Rattle.vc_stmt.specs.Calls.{CallsFollow}

-- The states match (Leroy, A formally verified compiler back-end, section 4.5): a run stands at the
-- end of what a block has so far; the store is represented, and the machine has done what the
-- meaning has. No argument is pushed, and the calls that wait stand where they stood, with their
-- variables.
pub record Matches
    (g : Setting) (w : Codes) (made : VProc) (b : ℕ) (calls : List LiveCall) (waiting : List Vars)
    (m : mean.State) (s : State Vars) : Type 0 where
  pub starts : Starts g w made (code_of w.procs g.id.0) b calls m.store s
  pub shows : Shows m s
  pub pushed : s.pushed ≡ []
  pub below : map (λ c. c.home) s.below ≡ waiting

-- From the end of the open block `from`, and over all code that is made later, the added code does
-- what the meaning does: it comes to the end of the block `to`, or to the trap; and where a budget
-- of the meaning runs out it goes on, for as many steps as the loops may take turns and as the
-- calls go on. What is asked of statements is that they are typed, and of the calls in them that
-- they do what they mean.
pub record Does
    (g : Setting) (old new : VProc) (from to : ℕ) (typed : Bool) (exec : Execution)
    : Type 0 where
  pub extends : Extends from to old new
  pub means : (w : Codes) (least : ℕ) (a : Around) (waiting : List Vars) (m : mean.State)
      (s : State Vars) → Grows new (code_of w.procs g.id.0) →
      Matches g w old from a.calls waiting m s → typed ≡ true → least ≤ a.turns →
      CallsFollow g.program.now w least a →
      Completes w s least (Matches g w new to a.calls waiting) (exec a m)
