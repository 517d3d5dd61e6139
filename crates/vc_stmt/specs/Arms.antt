-- What the code of an IF does, arm after arm.
use Rattle.std.specs.Prelude.{◌≡◌, ℕ, ◌-◌, ◌≤◌, Bool, true, ◌&&◌, List, length, take, if◌then◌else◌}
use Rattle.ob_syntax.specs.declared.checked.RArm.{RArm}
use Rattle.pra_base.specs.declared.code.VProc.{VProc}
use Rattle.ob_syntax.specs.Operators.{is_true}
use Rattle.ob_mean.specs.Statements as mean
use Rattle.ob_mean.specs.Statements.{Around, Execution, Completion, Arm, with, in_turn, on_state}
use Rattle.ob_mean.specs.Statements.{chosen}
use Rattle.vc_code.specs.Machine.{State}
use Rattle.vc_code.specs.Selected.{Vars, code_of}
use Rattle.vc_build.specs.Grow.{Grows, GrowsAt}
use Rattle.vc_build.specs.Runs.{Codes}
use Rattle.vc_select.specs.declared.target.Setting.{Setting}
use Rattle.vc_select.specs.Selects.{Extends}
use Rattle.vc_stmt.specs.Completes.{Completes}
use Rattle.vc_stmt.specs.Calls.{CallsFollow}
use Rattle.vc_stmt.specs.Does.{Matches}

-- The added code closes its block. It does what the meaning does, and comes to the begin of a block
-- that waits.
pub record Joins
    (g : Setting) (old new : VProc) (from behind : ℕ) (sound : Bool) (exec : Execution)
    : Type 0 where
  pub grows : GrowsAt from old new
  pub means : (w : Codes) (least : ℕ) (a : Around) (waiting : List Vars) (m : mean.State)
      (s : State Vars) → Grows new (code_of w.procs g.id.0) →
      Matches g w old from a.calls waiting m s → sound ≡ true → least ≤ a.turns →
      CallsFollow g.program.now w least a →
      Completes w s least (Matches g w old behind a.calls waiting) (exec a m)

-- what follows the condition of an arm: its statements, or what else
abbrev pub guarded : Arm → Around → mean.State → Completion → Completion
guarded arm a m rest =
    with (on_state arm.0 a m) m (λ x. if is_true x then in_turn arm.1 a m else rest)

-- The added code of an arm: where its condition is TRUE it does its statements and comes to the
-- block behind, and else it comes to the end of the block `next`.
pub record Guards
    (g : Setting) (old new : VProc) (from next behind : ℕ) (sound : Bool) (arm : Arm)
    : Type 0 where
  pub extends : Extends from next old new
  pub means : (w : Codes) (least : ℕ) (a : Around) (waiting : List Vars) (m : mean.State)
      (s : State Vars) (rest : Completion) → Grows new (code_of w.procs g.id.0) →
      Matches g w old from a.calls waiting m s → sound ≡ true → least ≤ a.turns →
      CallsFollow g.program.now w least a →
      ((t : State Vars) → Matches g w new next a.calls waiting m t →
      Completes w t least (Matches g w old behind a.calls waiting) rest) →
      Completes w s least (Matches g w old behind a.calls waiting) (guarded arm a m rest)

-- The added code of arms: with code for the other statements at the end of the block `next` it
-- comes to the block behind.
pub record Chooses
    (g : Setting) (old new : VProc) (from next behind : ℕ) (sound : Bool) (arms : List Arm)
    : Type 0 where
  pub extends : Extends from next old new
  pub joins : (later : VProc) (fine : Bool) (other : List Execution) →
      Joins g new later next behind fine (in_turn other) →
      Joins g old later from behind (sound && fine) (chosen arms other)

-- all arms but the last
abbrev pub take_init : List RArm → List RArm
take_init arms = take (length arms - 1) arms
