-- Code with no more variables of any kind.
use Rattle.std.specs.Prelude.{◌≤◌, Bool, count_by}
use Rattle.pra_base.specs.declared.code.VarKind.{VarKind}
use Rattle.pra_base.specs.declared.code.VProc.{VProc}

-- The new code has no more variables than the old one, of whatever kinds are counted.
pub record KeepsKinds (old new : VProc) : Type 0 where
  pub counts : (kind : VarKind → Bool) → count_by kind new.vars ≤ count_by kind old.vars
