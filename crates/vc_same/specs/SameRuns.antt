-- When code may stand in the place of other code.
use Rattle.std.specs.Prelude.{◌≡◌, ℕ, ℤ, ◌≤◌, List, length, slice_get, slice_set, Some}
use Rattle.pra_base.specs.Agreement.{Carried}
use Rattle.pra_base.specs.declared.code.VProc.{VProc}
use Rattle.pra_base.specs.declared.code.VModule.{VModule}
use Rattle.pra_base.specs.Code.{block_of}
use Rattle.pra_base.specs.Valid.{PushesBeforeCalls, TakesArgs, IsValid, IsSized, instruction_count}
use Rattle.vc_code.specs.Selected.{vrun, RunsWell}

abbrev pub with_procs : VModule → List VProc → VModule
with_procs module_ procs = record module_ { procs = procs }

-- the module with another procedure in the place of one
abbrev pub with_proc : VModule → ℕ → VProc → VModule
with_proc module_ p code = with_procs module_ (slice_set module_.procs p code)

-- In every module in which the old code is one of the procedures, the new code in its place carries
-- each run that is never stuck, and is then never stuck either.
pub record SameRuns (old new : VProc) : Type 0 where
  pub carried : (module_ : VModule) (p : ℕ) (frames : List ℕ) (input : List ℤ) →
      slice_get module_.procs p ≡ Some old → RunsWell module_ frames input →
      Carried (vrun module_ frames input) (vrun (with_proc module_ p new) frames input)
  pub runs_well : (module_ : VModule) (p : ℕ) (frames : List ℕ) (input : List ℤ) →
      slice_get module_.procs p ≡ Some old → RunsWell module_ frames input →
      RunsWell (with_proc module_ p new) frames input

-- The new code may stand in the place of the old one: it is valid and sized, does the same, has the
-- old one's heading and blocks, and is no longer. Where each Call has its Pushes in a list of
-- procedures, it still has them.
pub record Preserves (old new : VProc) : Type 0 where
  pub runs : SameRuns old new
  pub is_valid : IsValid new
  pub is_sized : IsSized new
  pub id : new.id ≡ old.id
  pub args : new.args ≡ old.args
  pub aggregates : new.aggregates ≡ old.aggregates
  pub count : length new.blocks ≡ length old.blocks
  pub depths : (b : ℕ) → (block_of new b).depth ≡ (block_of old b).depth
  pub pushes : (counts : List ℕ) → PushesBeforeCalls (TakesArgs counts) old.blocks →
      PushesBeforeCalls (TakesArgs counts) new.blocks
  pub instructions : instruction_count new.blocks ≤ instruction_count old.blocks
  pub variables : length new.vars ≤ length old.vars
