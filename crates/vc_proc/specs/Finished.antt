-- Code whose last open block is left by Return, with its blocks in the order in which they are
-- listed.
use Rattle.std.specs.Prelude.{◌≡◌, ℕ, ◌<◌, true, List, length, map, Some, slice_get}
use Rattle.pra_base.specs.Code.{kind_of, end_of, IsTarget, EachInstr}
use Rattle.pra_base.specs.Valid.{PushesBeforeCalls, TakesArgs, IsValid, instruction_count}
use Rattle.pra_base.specs.declared.ids.BlockId.{BlockId}
use Rattle.pra_base.specs.declared.code.End.TheVariants.{Return}
use Rattle.pra_base.specs.declared.code.VarKind.{VarKind}
use Rattle.pra_base.specs.declared.code.VarKind.TheVariants.{Param}
use Rattle.pra_base.specs.declared.code.VProc.{VProc}
use Rattle.vc_build.specs.Grow.{count, with_end}
use Rattle.vc_build.specs.Text.{depth_at}
use Rattle.vc_expr.specs.Readable.{Entries, Certifies}
use Rattle.vc_expr.specs.Rules.{Obeys, KeepsRules}
use Rattle.vc_order.specs.Order.{depths}
use Rattle.vc_same.specs.SameRuns.{SameRuns}

-- no two variables are one parameter
abbrev pub ParamsApart : List VarKind → Type 0
ParamsApart vars =
    (v w i : ℕ) → slice_get vars v ≡ Some (Param i) → slice_get vars w ≡ Some (Param i) → v ≡ w

-- Of the rules that the code keeps: those of each instruction, that Pushes lead to their Calls, and
-- that targets are there.
pub record KeepsOn (counts : List ℕ) (code : VProc) : Type 0 where
  pub obeys : EachInstr code.blocks (Obeys code.args code.vars)
  pub pushes : PushesBeforeCalls (TakesArgs counts) code.blocks
  pub targets : (b t : ℕ) → b < count code → IsTarget (end_of code b) t → t < count code

-- The old code, with the block `last` left by Return, may be this code in every module; and this
-- code is valid if the old one kept the rules. Its blocks stand in the order of a list.
pub record IsFinished (old : VProc) (last : ℕ) (order : List BlockId) (new : VProc) : Type 0 where
  pub same : SameRuns (with_end last Return old) new
  pub id : new.id ≡ old.id
  pub args : new.args ≡ old.args
  pub aggregates : new.aggregates ≡ old.aggregates
  pub vars : new.vars ≡ old.vars
  pub count : length new.blocks ≡ length old.blocks
  pub instructions : instruction_count new.blocks ≡ instruction_count old.blocks
  pub depths : depths new ≡ map (λ b. depth_at old b.0) order
  pub keeps : (counts : List ℕ) → KeepsRules counts old → KeepsOn counts new
  pub valid : (counts : List ℕ) (known : Entries) → KeepsRules counts old → Certifies known old →
      ParamsApart old.vars →
      ((v : ℕ) → known 0 v ≡ true → (i : ℕ) × (kind_of old v ≡ Param i)) → IsValid new
