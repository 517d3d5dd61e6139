-- Instructions under other names of their variables.
use Rattle.std.specs.Prelude.{ℕ, Option, Some, None}
use Rattle.pra_base.specs.declared.ids.VarId.{VarId}
use Rattle.pra_base.specs.declared.code.Base.{Base}
use Rattle.pra_base.specs.declared.code.Base.TheVariants as base
use Rattle.pra_base.specs.declared.code.Addr.{Addr}
use Rattle.pra_base.specs.declared.code.VInstr.{VInstr}
use Rattle.pra_base.specs.declared.code.VInstr.TheVariants.{Set, Copy, Add, Sub, And, Or, Xor, Mul}
use Rattle.pra_base.specs.declared.code.VInstr.TheVariants.{Neg, Shift, Cmp, CmpSet, DivMod, Check}
use Rattle.pra_base.specs.declared.code.VInstr.TheVariants.{CheckPos, Load, Store, Push, Call, Read}
use Rattle.pra_base.specs.declared.code.VInstr.TheVariants.{Write, Line, Clear}
use Rattle.pra_base.specs.declared.code.VInstr.TheVariants as instr

-- the new number of each variable
abbrev pub Names : Type 0
Names = ℕ → ℕ

abbrev pub var : Names → VarId → VarId
var to v = record { 0 = to v.0 }

abbrev pub base_of : Names → Base → Base
base_of to (base.Via v) = base.Via (var to v)
base_of to (base.Global w) = base.Global w
base_of to (base.Frame w) = base.Frame w
base_of to (base.Cell i) = base.Cell i

abbrev pub index_of : Names → Option VarId → Option VarId
index_of to (Some v) = Some (var to v)
index_of to None = None

abbrev pub address : Names → Addr → Addr
address to a = record { base = base_of to a.base; offset = a.offset; index = index_of to a.index }

abbrev pub renamed : Names → VInstr → VInstr
renamed to (Set v n) = Set (var to v) n
renamed to (Copy v s) = Copy (var to v) (var to s)
renamed to (Add v s) = Add (var to v) (var to s)
renamed to (Sub v s) = Sub (var to v) (var to s)
renamed to (And v s) = And (var to v) (var to s)
renamed to (Or v s) = Or (var to v) (var to s)
renamed to (Xor v s) = Xor (var to v) (var to s)
renamed to (Mul v s) = Mul (var to v) (var to s)
renamed to (Neg v) = Neg (var to v)
renamed to (Shift op v n) = Shift op (var to v) n
renamed to (Cmp a b) = Cmp (var to a) (var to b)
renamed to (CmpSet c v a b) = CmpSet c (var to v) (var to a) (var to b)
renamed to (DivMod q r a d) = DivMod (var to q) (var to r) (var to a) (var to d)
renamed to (Check v n) = Check (var to v) n
renamed to (CheckPos v) = CheckPos (var to v)
renamed to (Load v a) = Load (var to v) (address to a)
renamed to (Store a s) = Store (address to a) (var to s)
renamed to (instr.Addr v a) = instr.Addr (var to v) (address to a)
renamed to (Push s) = Push (var to s)
renamed to (Call p) = Call p
renamed to (Read v) = Read (var to v)
renamed to (Write s) = Write (var to s)
renamed to Line = Line
renamed to Clear = Clear
