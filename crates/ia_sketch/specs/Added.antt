-- Procedures that were placed one after the other.
use Rattle.std.specs.Prelude.{◌≡◌, ℕ, ◌≤◌, List, [], ◌∷◌, ◌++◌, length, slice_get, Some}
use Rattle.std.specs.List.{sum_by}
use Rattle.pra_base.specs.declared.code.VProc.{VProc}
use Rattle.ia_emit.specs.Counts.{instruction_count}
use Rattle.ia_emit.specs.Operands.{IsSmall}
use Rattle.pl_build.specs.Placement.{IsPlacement}
use Rattle.pl_place.specs.declared.placed.LProc.{LProc}
use Rattle.pl_place.specs.Valid.{IsPlaced}

-- each is valid and small, and together they have so many instructions and blocks, which an image
-- holds
pub record AreAdded (procs : List LProc) (instructions blocks : ℕ) : Type 0 where
  pub placed : (k : ℕ) (p : LProc) → slice_get procs k ≡ Some p → IsPlaced p
  pub small : (k : ℕ) (p : LProc) → slice_get procs k ≡ Some p → IsSmall p
  pub instructions_are : sum_by instruction_count procs ≡ instructions
  pub blocks_are : sum_by (λ (p : LProc). length p.blocks) procs ≡ blocks
  pub few_instructions : instructions ≤ 262401
  pub few_blocks : blocks ≤ 131586

-- one more stands behind them, which was made of the code
pub record IsAdded (code : VProc) (old new : List LProc) : Type 0 where
  pub made : LProc
  pub placement : IsPlacement code made
  pub behind : new ≡ old ++ made ∷ []
