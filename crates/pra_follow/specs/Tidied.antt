-- The code that stands for the procedures of a module, and what is known of it.
use Rattle.std.specs.Prelude.{◌≡◌, ℕ, List, ◌∷◌, length, slice_get, Some}
use Rattle.pra_base.specs.declared.code.VProc.{VProc}
use Rattle.pra_base.specs.Valid.{IsValid, IsSized, PushesBeforeCalls, TakesArgs}
use Rattle.ob_syntax.specs.declared.checked.Checked.{Checked}
use Rattle.ob_syntax.specs.declared.checked.CheckedProc.{CheckedProc}
use Rattle.vc_order.specs.Order.{depths}
use Rattle.vc_stmt.specs.Depths.{depths_of_all}
use Rattle.vc_proc.specs.Selected.{IsSelected, KeepsCounts, parameter_counts}
use Rattle.vc_same.specs.SameRuns.{Preserves}
use Rattle.vc_tidy.specs.KindCounts.{KeepsKinds}
use Rattle.vc_tidy.specs.Tidy.{IsTidy}

-- tidy code that may stand in the place of what selection answers for procedure p
pub record IsTidied (program : Checked) (p : ℕ) (code : VProc) : Type 0 where
  pub proc : CheckedProc
  pub there : slice_get program.procs p ≡ Some proc
  pub selected : VProc
  pub is_selected : IsSelected program p proc selected
  pub preserves : Preserves selected code
  pub kinds : KeepsKinds selected code
  pub tidy : IsTidy code

-- such code of each procedure, in order
pub record AreTidied (program : Checked) (codes : List VProc) : Type 0 where
  pub count : length codes ≡ length program.procs
  pub each : (p : ℕ) (code : VProc) → slice_get codes p ≡ Some code → IsTidied program p code

-- Tidy code of procedure p, valid alone and in its module, with the counts that selection keeps.
-- Its blocks stand as selection lists them, each in as many loops as what it is made for.
pub record IsCodeOf (program : Checked) (p : ℕ) (proc : CheckedProc) (code : VProc)
    : Type 0 where
  pub id : code.id.0 ≡ p
  pub args : code.args ≡ length proc.params
  pub aggregates : code.aggregates ≡ proc.aggregate_words
  pub valid : IsValid code
  pub sized : IsSized code
  pub pushes : PushesBeforeCalls (TakesArgs (parameter_counts program)) code.blocks
  pub counts : KeepsCounts proc code
  pub depths : depths code ≡ 0 ∷ depths_of_all proc.body 0
  pub tidy : IsTidy code
