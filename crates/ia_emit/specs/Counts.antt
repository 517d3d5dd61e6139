-- How many instructions and blocks the procedures of a module have at most.
use Rattle.std.specs.Prelude.{ℕ, ◌≤◌, List, length}
use Rattle.std.specs.List.{sum_by}
use Rattle.pl_place.specs.declared.placed.LProc.{LProc}
use Rattle.pl_place.specs.Placed.{bare}
use Rattle.pra_base.specs.declared.code.Block.{Block}

-- the instructions of a procedure, its moves left out
abbrev pub instruction_count : LProc → ℕ
instruction_count p = sum_by (λ (b : Block). length b.code) (bare p)

-- a module has so few
pub record AreFew (procs : List LProc) : Type 0 where
  pub instructions : sum_by instruction_count procs ≤ 262401
  pub blocks : sum_by (λ (p : LProc). length p.blocks) procs ≤ 131586
