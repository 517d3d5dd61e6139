-- How much is added to code, as the limits on code count it.
use Rattle.std.specs.Prelude.{◌≡◌, ℕ, ◌+◌, ◌≤◌, count_by, if◌then◌else◌, Some, slice_get}
use Rattle.pra_base.specs.declared.code.VarKind.{VarKind}
use Rattle.pra_base.specs.declared.code.VarKind.TheVariants.{Param}
use Rattle.pra_base.specs.declared.code.VProc.{VProc}
use Rattle.pra_base.specs.Code.{kind_of, is_plain}
use Rattle.pra_base.specs.Valid.{instruction_count}
use Rattle.vc_build.specs.Grow.{count}
use Rattle.vc_expr.specs.Operators.{is_temporary}
use Rattle.vc_expr.specs.Readable.{is_constant}

-- At most so many instructions, local variables, constants and blocks are added, and no parameter.
pub record AddsAtMost (i v c b : ℕ) (old new : VProc) : Type 0 where
  pub instructions : instruction_count new.blocks ≤ instruction_count old.blocks + i
  pub locals : count_by is_plain new.vars ≤ count_by is_plain old.vars + v
  pub constants : count_by is_constant new.vars ≤ count_by is_constant old.vars + c
  pub blocks : count new ≤ count old + b
  pub params : (v k : ℕ) → slice_get new.vars v ≡ Some (Param k) →
      slice_get old.vars v ≡ Some (Param k)

-- The start of an operation adds one instruction and one variable, or nothing.
abbrev pub start_count : VarKind → (first v : ℕ) → ℕ
start_count kind first v = if is_temporary kind first v then 0 else 1

-- An operation on this operand adds its start, and at most so much more.
abbrev pub OperationAdds : (i v c first x : ℕ) (old new : VProc) → Type 0
OperationAdds i v c first x old new =
    AddsAtMost (start_count (kind_of old x) first x + i) (start_count (kind_of old x) first x + v)
    c 0 old new
