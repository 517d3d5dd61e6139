-- What an instruction does, stated once for all machines: on what its read operands hold, in the
-- order of the operand table, it is an action, or stuck.
use Rattle.std.specs.Prelude.{ℕ, ◌+◌, ◌*◌, ◌^◌, ◌%◌, if◌then◌else◌, List, slice_index_or, Option}
use Rattle.std.specs.Prelude.{Some, None, bit_and, bit_or, bit_xor}
use Rattle.pra_list.specs.Options.{◌>>=◌}
use Rattle.pra_base.specs.declared.event.TrapKind.TheVariants.{Index, Divide}
use Rattle.pra_base.specs.declared.event.OutEvent.TheVariants as event
use Rattle.pra_base.specs.declared.ids.VarId.{VarId}
use Rattle.pra_base.specs.declared.code.Base.{Base}
use Rattle.pra_base.specs.declared.code.Base.TheVariants as base
use Rattle.pra_base.specs.declared.code.Addr.{Addr}
use Rattle.pra_base.specs.declared.code.VInstr.{VInstr}
use Rattle.pra_base.specs.declared.code.VInstr.TheVariants.{Set, Copy, Add, Sub, And, Or, Xor, Mul}
use Rattle.pra_base.specs.declared.code.VInstr.TheVariants.{Neg, Shift, Cmp, CmpSet, DivMod, Check}
use Rattle.pra_base.specs.declared.code.VInstr.TheVariants.{CheckPos, Load, Store, Push, Call, Read}
use Rattle.pra_base.specs.declared.code.VInstr.TheVariants.{Write, Line, Clear}
use Rattle.pra_base.specs.declared.code.VInstr.TheVariants as instr
use Rattle.pra_base.specs.Words.{word, signed, sum32, diff32, product32, quotient32, remainder32}
use Rattle.pra_base.specs.Words.{is_positive, compares, shifted, truth}
use Rattle.vc_code.specs.declared.value.Object.{Object}
use Rattle.vc_code.specs.declared.value.Object.TheVariants.{Data, Aggregates, Cell}
use Rattle.vc_code.specs.declared.value.Value.{Value}
use Rattle.vc_code.specs.declared.value.Value.TheVariants.{Num, At}
use Rattle.vc_code.specs.declared.action.Here.{Here}
use Rattle.vc_code.specs.declared.action.Action.{Action}
use Rattle.vc_code.specs.declared.action.Action.TheVariants.{Nothing, Give, GiveBoth, Compare, Tell}
use Rattle.vc_code.specs.declared.action.Action.TheVariants.{Input, Trap}
use Rattle.vc_code.specs.declared.action.Action.TheVariants as action
use Rattle.vc_code.specs.Value.{Held, is_index}

-- ---- what is read: None where there is nothing, or the wrong kind of value

-- what operand k holds
abbrev pub value_at : List Held → ℕ → Option Value
value_at held k = slice_index_or held k None

abbrev pub number : Held → Option ℕ
number (Some (Num n)) = Some n
number _ = None

abbrev pub number_at : List Held → ℕ → Option ℕ
number_at held k = number (slice_index_or held k None)

abbrev pub address : Held → Option (Object × ℕ)
address (Some (At x o)) = Some (x, o)
address _ = None

-- ---- addresses: the via base is operand 0, the index the operand behind it

abbrev pub base_count : Base → ℕ
base_count (base.Via v) = 1
base_count _ = 0

abbrev pub index_count : Option VarId → ℕ
index_count None = 0
index_count (Some v) = 1

abbrev pub address_count : Addr → ℕ
address_count a = base_count a.base + index_count a.index

abbrev pub based : Here → Base → List Held → Option (Object × ℕ)
based here (base.Global w) held = Some (Data, 4 * w)
based here (base.Frame w) held = Some (Aggregates here.calls here.sum, 4 * w)
based here (base.Cell i) held = Some (Cell here.calls here.below i, 0)
based here (base.Via v) held = address (slice_index_or held 0 None)

abbrev pub indexed : Option VarId → List Held → ℕ → Option ℕ
indexed None held k = Some 0
indexed (Some v) held k = number_at held k

-- the address base + offset + 4 * index, with the offset modulo 2^32
abbrev pub placed : Here → Addr → List Held → Option (Object × ℕ)
placed here a held = do
  start ← based here a.base held
  i ← indexed a.index held (base_count a.base)
  Some (start.0, (start.1 + word a.offset + 4 * i) % 2 ^ 32)

-- ---- instructions

abbrev pub gives : ℕ → Option Action
gives n = Some (Give (Num n))

-- the numbers of operands 0 and 1
abbrev pub both : List Held → Option (ℕ × ℕ)
both held = do
  a ← number_at held 0
  b ← number_at held 1
  Some (a, b)

abbrev pub computes : (ℕ → ℕ → ℕ) → List Held → Option Action
computes f held = do
  ab ← both held
  gives (f ab.0 ab.1)

-- quotient and remainder; stuck unless the divisor is positive
abbrev pub divided : ℕ → ℕ → Option Action
divided a d =
    if is_positive d then Some (GiveBoth (Num (quotient32 a d)) (Num (remainder32 a d))) else None

abbrev pub operate : Here → VInstr → List Held → Option Action
operate here (Set v n) held = gives (word n)
operate here (Copy v s) held = do
  x ← value_at held 0
  Some (Give x)
operate here (Add v s) held = computes sum32 held
operate here (Sub v s) held = computes diff32 held
operate here (And v s) held = computes bit_and held
operate here (Or v s) held = computes bit_or held
operate here (Xor v s) held = computes bit_xor held
operate here (Mul v s) held = computes product32 held
operate here (Neg v) held = do
  a ← number_at held 0
  gives (diff32 0 a)
operate here (Shift op v n) held = do
  a ← number_at held 0
  gives (shifted op a n)
operate here (Cmp x y) held = do
  ab ← both held
  Some (Compare ab.0 ab.1)
operate here (CmpSet k v x y) held = computes (λ a b. truth (compares k a b)) held
operate here (DivMod q r x y) held = do
  ab ← both held
  divided ab.0 ab.1
operate here (Check i n) held = do
  a ← number_at held 0
  if is_index a n then Some Nothing else Some (Trap Index)
operate here (CheckPos d) held = do
  a ← number_at held 0
  if is_positive a then Some Nothing else Some (Trap Divide)
operate here (Load v a) held = do
  at ← placed here a held
  Some (action.Load at.0 at.1)
operate here (Store a s) held = do
  at ← placed here a held
  n ← number_at held (address_count a)
  Some (action.Store at.0 at.1 n)
operate here (instr.Addr v a) held = do
  at ← placed here a held
  Some (Give (At at.0 at.1))
operate here (Push s) held = do
  x ← value_at held 0
  Some (action.Push x)
operate here (Call p) held = Some (action.Call p)
operate here (Read v) held = Some Input
operate here (Write s) held = do
  a ← number_at held 0
  Some (Tell (event.Number (signed a)))
operate here Line held = Some (Tell event.Line)
operate here Clear held = Some action.Clear
