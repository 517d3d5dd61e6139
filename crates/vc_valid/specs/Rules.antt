-- The rules of valid code, as far as they speak of one instruction or of one block.
use Rattle.std.specs.Prelude.{◌≡◌, ◌≢◌, ℕ, suc, ◌≤◌, ◌↔◌, Bool, true, false, ℤ, pos, ◌≤ℤ◌}
use Rattle.std.specs.Prelude.{nat_eq, if◌then◌else◌, List, Option, Some, None, slice_get}
use Rattle.pra_base.specs.declared.ids.BlockId.{BlockId}
use Rattle.pra_base.specs.declared.ids.Cond.{Cond}
use Rattle.pra_base.specs.declared.ids.ShiftOp.{ShiftOp}
use Rattle.pra_base.specs.declared.ids.VarId.{VarId}
use Rattle.pra_base.specs.declared.code.VarKind.{VarKind}
use Rattle.pra_base.specs.declared.code.VarKind.TheVariants.{Param, Constant}
use Rattle.pra_base.specs.declared.code.VInstr.{VInstr}
use Rattle.pra_base.specs.declared.code.VInstr.TheVariants.{Copy, Shift, DivMod, Check, Push, Call}
use Rattle.pra_base.specs.declared.code.VInstr.TheVariants.{Clear}
use Rattle.pra_base.specs.declared.code.End.TheVariants.{Branch, Return}
use Rattle.pra_base.specs.declared.code.Block.{Block}
use Rattle.pra_base.specs.declared.code.VProc.{VProc}
use Rattle.pra_base.specs.Code.{IsTarget}
use Rattle.pra_base.specs.Operands.{reads, only_writes}
use Rattle.pra_base.specs.Valid.{DividesApart, KeepsConstant, NamesCell, EndsWithCmp, PushesLead}
use Rattle.pra_base.specs.Valid.{TakesAny}

-- ---- one instruction

-- nothing is only written and read
abbrev pub IsApart : VInstr → Type 0
IsApart i = (v : ℕ) → only_writes i v ≡ true → reads i v ≡ false

abbrev pub IsConstantOf : List VarKind → ℕ → Type 0
IsConstantOf vars v = (n : ℤ) × (slice_get vars v ≡ Some (Constant n))

-- it is no Copy of a constant
abbrev pub CopiesNoConstant : List VarKind → VInstr → Type 0
CopiesNoConstant vars i = (t s : VarId) → i ≡ Copy t s → IsConstantOf vars s.0 → ⊥

abbrev pub KeepsConstants : List VarKind → VInstr → Type 0
KeepsConstants vars i = (v : ℕ) → IsConstantOf vars v → KeepsConstant v i

-- no parameter from variable number `from` on is this argument
abbrev pub IsNoParam : List VarKind → ℕ → ℕ → Type 0
IsNoParam vars from argument =
    (v : ℕ) → from ≤ v → slice_get vars v ≡ Some (Param argument) → ⊥

-- no parameter is an argument in whose cell the instruction's address begins
abbrev pub AvoidsParams : List VarKind → VInstr → Type 0
AvoidsParams vars i = (v k : ℕ) → NamesCell i k → slice_get vars v ≡ Some (Param k) → ⊥

-- no two of these are one
pub record AreFour (q r a d : VarId) : Type 0 where
  pub q_r : q ≢ r
  pub q_a : q ≢ a
  pub q_d : q ≢ d
  pub r_a : r ≢ a
  pub r_d : r ≢ d
  pub a_d : a ≢ d

abbrev pub KeepsDivision : VProc → ℕ → ℕ → VInstr → Type 0
KeepsDivision code b k i =
    (q r a d : VarId) → i ≡ DivMod q r a d → DividesApart code b k q r a d

abbrev pub KeepsRange : VInstr → Type 0
KeepsRange i = (v : VarId) (n : ℤ) → i ≡ Check v n → (pos 0 ≤ℤ n) × (n ≤ℤ pos 2147483647)

abbrev pub KeepsShift : VInstr → Type 0
KeepsShift i = (op : ShiftOp) (v : VarId) (n : ℕ) → i ≡ Shift op v n → (1 ≤ n) × (n ≤ 31)

abbrev pub KeepsClear : ℕ → ℕ → ℕ → VInstr → Type 0
KeepsClear aggregates b k i = i ≡ Clear → (aggregates ≢ 0) × (b ≡ 0) × (k ≡ 0)

-- instruction k of block b
pub record KeepsRules (code : VProc) (b k : ℕ) (i : VInstr) : Type 0 where
  pub apart : IsApart i
  pub constants : KeepsConstants code.vars i
  pub cells : AvoidsParams code.vars i
  pub division : KeepsDivision code b k i
  pub range : KeepsRange i
  pub shift : KeepsShift i
  pub clear : KeepsClear code.aggregates b k i

-- ---- one block

-- block b of so many
pub record KeepsBlock (count b : ℕ) (block : Block) : Type 0 where
  pub no_entry : IsTarget block.end 0 → ⊥
  pub last : (block.end ≡ Return) ↔ (suc b ≡ count)
  pub compared : (condition : Cond) (one other : BlockId) →
      block.end ≡ Branch condition one other → EndsWithCmp block.code
  pub pushes : PushesLead TakesAny 0 block.code

-- How many Pushes stand directly before what follows an instruction, where n stood before it. None
-- where it breaks the rule: it is a Call that they don't fit, or another one that parts them from
-- their Call.
abbrev pub pushes_after : VInstr → ℕ → Bool → Option ℕ
pushes_after (Push s) n fits = Some (suc n)
pushes_after (Call p) n fits = if fits then Some 0 else None
pushes_after i n fits = if nat_eq n 0 then Some 0 else None
