-- Code as procedure of a list.
use Rattle.std.specs.Prelude.{◌≡◌, ℕ, List}
use Rattle.pra_base.specs.declared.code.VProc.{VProc}
use Rattle.pra_base.specs.Valid.{IsValid, IsSized, PushesBeforeCalls, TakesArgs}

-- Its id is its number; it is valid and sized; and it calls procedures of the list alone, each
-- behind one Push for each argument, where the procedures take so many arguments.
pub record HasCode (counts : List ℕ) (p : ℕ) (code : VProc) : Type 0 where
  pub id : code.id.0 ≡ p
  pub sized : IsSized code
  pub valid : IsValid code
  pub calls : PushesBeforeCalls (TakesArgs counts) code.blocks
