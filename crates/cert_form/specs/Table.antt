-- The table of instructions: the name of each form, and the operands of each instruction in their
-- order. Writing and reading share it.
use Rattle.std.specs.Prelude.{ℕ, if◌then◌else◌, List, [], ◌∷◌, Option, Some, None, codes}
use Rattle.std.specs.Str.{bytes_eq}
use Rattle.pra_base.specs.declared.ids.ShiftOp.{ShiftOp}
use Rattle.pra_base.specs.declared.ids.ShiftOp.TheVariants as shift
use Rattle.pra_base.specs.declared.code.VInstr.{VInstr}
use Rattle.pra_base.specs.declared.code.VInstr.TheVariants as instr
use Rattle.cert_form.specs.declared.table.Form.{Form}
use Rattle.cert_form.specs.declared.table.Form.TheVariants.{Set, Copy, Add, Sub, And, Or, Xor, Mul}
use Rattle.cert_form.specs.declared.table.Form.TheVariants.{Neg, Shl, Shr, Sar, Cmp, CmpSet}
use Rattle.cert_form.specs.declared.table.Form.TheVariants.{DivMod, Check}
use Rattle.cert_form.specs.declared.table.Form.TheVariants.{CheckPos}
use Rattle.cert_form.specs.declared.table.Form.TheVariants.{Load, Store, Addr, Push, Call, Read}
use Rattle.cert_form.specs.declared.table.Form.TheVariants.{Write}
use Rattle.cert_form.specs.declared.table.Form.TheVariants.{Line, Clear}
use Rattle.cert_form.specs.declared.table.Operand.{Operand}
use Rattle.cert_form.specs.declared.table.Operand.TheVariants.{Variable, Number, Address, Condition}
use Rattle.cert_form.specs.declared.table.Operand.TheVariants.{Procedure}

abbrev pub name : Form → List ℕ
name Set = codes "set"
name Copy = codes "copy"
name Add = codes "add"
name Sub = codes "sub"
name And = codes "and"
name Or = codes "or"
name Xor = codes "xor"
name Mul = codes "mul"
name Neg = codes "neg"
name Shl = codes "shl"
name Shr = codes "shr"
name Sar = codes "sar"
name Cmp = codes "cmp"
name CmpSet = codes "cmpset"
name DivMod = codes "divmod"
name Check = codes "check"
name CheckPos = codes "checkpos"
name Load = codes "load"
name Store = codes "store"
name Addr = codes "addr"
name Push = codes "push"
name Call = codes "call"
name Read = codes "read"
name Write = codes "write"
name Line = codes "line"
name Clear = codes "clear"

abbrev pub all_forms : List Form
all_forms =
    Set ∷ Copy ∷ Add ∷ Sub ∷ And ∷ Or ∷ Xor ∷ Mul ∷ Neg ∷ Shl ∷ Shr ∷ Sar
    ∷ Cmp ∷ CmpSet
    ∷ DivMod ∷ Check ∷ CheckPos ∷ Load ∷ Store ∷ Addr ∷ Push ∷ Call ∷ Read ∷ Write
    ∷ Line ∷ Clear ∷ []

abbrev pub first_named : List ℕ → List Form → Option Form
first_named word [] = None
first_named word (f ∷ forms) =
    if bytes_eq word (name f) then Some f else first_named word forms

-- the form of a name
abbrev pub form_named : List ℕ → Option Form
form_named word = first_named word all_forms

abbrev pub shift_form : ShiftOp → Form
shift_form shift.Shl = Shl
shift_form shift.Shr = Shr
shift_form shift.Sar = Sar

abbrev pub form_of : VInstr → Form
form_of (instr.Set v c) = Set
form_of (instr.Copy v s) = Copy
form_of (instr.Add v s) = Add
form_of (instr.Sub v s) = Sub
form_of (instr.And v s) = And
form_of (instr.Or v s) = Or
form_of (instr.Xor v s) = Xor
form_of (instr.Mul v s) = Mul
form_of (instr.Neg v) = Neg
form_of (instr.Shift op v n) = shift_form op
form_of (instr.Cmp a b) = Cmp
form_of (instr.CmpSet k v a b) = CmpSet
form_of (instr.DivMod q r a d) = DivMod
form_of (instr.Check i n) = Check
form_of (instr.CheckPos d) = CheckPos
form_of (instr.Load v m) = Load
form_of (instr.Store m s) = Store
form_of (instr.Addr v m) = Addr
form_of (instr.Push s) = Push
form_of (instr.Call p) = Call
form_of (instr.Read v) = Read
form_of (instr.Write s) = Write
form_of instr.Line = Line
form_of instr.Clear = Clear

abbrev pub operands_of : VInstr → List Operand
operands_of (instr.Set v c) = Variable v ∷ Number c ∷ []
operands_of (instr.Copy v s) = Variable v ∷ Variable s ∷ []
operands_of (instr.Add v s) = Variable v ∷ Variable s ∷ []
operands_of (instr.Sub v s) = Variable v ∷ Variable s ∷ []
operands_of (instr.And v s) = Variable v ∷ Variable s ∷ []
operands_of (instr.Or v s) = Variable v ∷ Variable s ∷ []
operands_of (instr.Xor v s) = Variable v ∷ Variable s ∷ []
operands_of (instr.Mul v s) = Variable v ∷ Variable s ∷ []
operands_of (instr.Neg v) = Variable v ∷ []
operands_of (instr.Shift op v n) = Variable v ∷ Variable (record { 0 = n }) ∷ []
operands_of (instr.Cmp a b) = Variable a ∷ Variable b ∷ []
operands_of (instr.CmpSet k v a b) = Condition k ∷ Variable v ∷ Variable a ∷ Variable b ∷ []
operands_of (instr.DivMod q r a d) = Variable q ∷ Variable r ∷ Variable a ∷ Variable d ∷ []
operands_of (instr.Check i n) = Variable i ∷ Number n ∷ []
operands_of (instr.CheckPos d) = Variable d ∷ []
operands_of (instr.Load v m) = Variable v ∷ Address m ∷ []
operands_of (instr.Store m s) = Address m ∷ Variable s ∷ []
operands_of (instr.Addr v m) = Variable v ∷ Address m ∷ []
operands_of (instr.Push s) = Variable s ∷ []
operands_of (instr.Call p) = Procedure p ∷ []
operands_of (instr.Read v) = Variable v ∷ []
operands_of (instr.Write s) = Variable s ∷ []
operands_of instr.Line = []
operands_of instr.Clear = []
