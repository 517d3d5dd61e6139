-- Code under construction that keeps the rules of valid and of sized code as far as it has come.
use Rattle.std.specs.Prelude.{◌≡◌, ◌≢◌, ℕ, suc, ◌≤◌, ◌<◌, ◌⊎◌, Bool, true, false, ℤ, pos, ◌≤ℤ◌}
use Rattle.std.specs.Prelude.{List, length, Some, slice_get, slice_index_or}
use Rattle.pra_base.specs.declared.ids.BlockId.{BlockId}
use Rattle.pra_base.specs.declared.ids.Cond.{Cond}
use Rattle.pra_base.specs.declared.ids.ShiftOp.{ShiftOp}
use Rattle.pra_base.specs.declared.ids.VarId.{VarId}
use Rattle.pra_base.specs.declared.code.VarKind.{VarKind}
use Rattle.pra_base.specs.declared.code.VarKind.TheVariants.{Param, Plain, Constant}
use Rattle.pra_base.specs.declared.code.VInstr.{VInstr}
use Rattle.pra_base.specs.declared.code.VInstr.TheVariants.{Shift, DivMod, Check, Push, Call, Clear}
use Rattle.pra_base.specs.declared.code.End.TheVariants.{Branch, Return}
use Rattle.pra_base.specs.declared.code.Block.{Block}
use Rattle.pra_base.specs.declared.code.VProc.{VProc}
use Rattle.pra_base.specs.Code.{block_of, end_of, IsTarget, EachInstr}
use Rattle.pra_base.specs.Operands.{reads, only_writes}
use Rattle.pra_base.specs.Valid.{EndsWithCmp, KeepsConstant, Names, NamesCell, PushesBeforeCalls}
use Rattle.pra_base.specs.Valid.{TakesArgs, ClearFirst}
use Rattle.vc_build.specs.Grow.{count, stand_in, IsOpen}

-- ---- rules of an instruction

-- Quotient, remainder, dividend and divisor are four variables, and the dividend is a local one.
pub record DividesWell (vars : List VarKind) (q r a d : VarId) : Type 0 where
  pub q_r : q ≢ r
  pub q_a : q ≢ a
  pub q_d : q ≢ d
  pub r_a : r ≢ a
  pub r_d : r ≢ d
  pub a_d : a ≢ d
  pub plain : slice_index_or vars a.0 Plain ≡ Plain
  pub there : a.0 < length vars

-- What an instruction keeps in code with these variables and so many arguments.
pub record Obeys (args : ℕ) (vars : List VarKind) (i : VInstr) : Type 0 where
  pub named : (v : ℕ) → Names i v → v < length vars
  pub roles_apart : (v : ℕ) → only_writes i v ≡ true → reads i v ≡ false
  pub division_apart : (q r a d : VarId) → i ≡ DivMod q r a d →
      DividesWell vars q r a d
  pub constants_kept : (v : ℕ) (n : ℤ) → slice_index_or vars v Plain ≡ Constant n →
      KeepsConstant v i
  pub check_range : (v : VarId) (n : ℤ) → i ≡ Check v n → (pos 0 ≤ℤ n) × (n ≤ℤ pos 2147483647)
  pub shift_range : (op : ShiftOp) (v : VarId) (n : ℕ) → i ≡ Shift op v n → (1 ≤ n) × (n ≤ 31)
  pub cells : (k : ℕ) → NamesCell i k →
      (k < args) × ((v : ℕ) → slice_get vars v ≢ Some (Param k))

-- no instruction of a call, and none that clears the aggregates
abbrev pub is_simple : VInstr → Bool
is_simple (Push s) = false
is_simple (Call p) = false
is_simple Clear = false
is_simple _ = true

-- ---- rules of an end

-- The end of a closed block, other than the last one: its targets are blocks of the code, of which
-- none is the entry, and it has what it branches by.
pub record ClosesWell (blocks : ℕ) (block : Block) : Type 0 where
  pub targets : (t : ℕ) → IsTarget block.end t → (0 < t) × (t < blocks)
  pub compared : (k : Cond) (one other : BlockId) → block.end ≡ Branch k one other →
      EndsWithCmp block.code
  pub goes_on : block.end ≢ Return

-- ---- code under construction

-- The rules that code keeps while it is made, in a module whose procedures have so many parameters.
pub record KeepsRules (counts : List ℕ) (code : VProc) : Type 0 where
  pub obeys : EachInstr code.blocks (Obeys code.args code.vars)
  pub pushes_before_calls : PushesBeforeCalls (TakesArgs counts) code.blocks
  pub clear_first : ClearFirst code.aggregates code.blocks
  pub ends : (b : ℕ) → b < count code →
      ((block_of code b).end ≡ stand_in) ⊎ ClosesWell (count code) (block_of code b)

-- In an operation a temporary is not both operands.
abbrev pub OperandsApart : (first left right : ℕ) → Type 0
OperandsApart first left right = left ≡ right → left < first

-- What is added keeps the rules, if they were kept before.
pub record StaysValid (old new : VProc) : Type 0 where
  pub stays : (counts : List ℕ) → KeepsRules counts old → KeepsRules counts new

-- Only the last block is open, and no two variables are one parameter.
pub record IsComplete (code : VProc) (last : ℕ) : Type 0 where
  pub count : suc last ≡ count code
  pub is_open : IsOpen code last
  pub closed : (b : ℕ) → b < last → end_of code b ≢ stand_in
  pub params : (v w i : ℕ) → slice_get code.vars v ≡ Some (Param i) →
      slice_get code.vars w ≡ Some (Param i) → v ≡ w
