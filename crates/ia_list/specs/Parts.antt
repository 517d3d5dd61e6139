-- The table of a text's instructions: for each the form that its name stands for, and its operands.
-- Names are those of the Intel manual, in small letters; where one name has several forms, a point
-- and letters behind it tell which.
use Rattle.std.specs.Prelude.{ℕ, ℤ, pos, List, [], ◌++◌, codes}
use Rattle.pra_base.specs.Words.{word, sum32}
use Rattle.pra_base.specs.declared.ids.Cond.{Cond}
use Rattle.pra_base.specs.declared.ids.ShiftOp.{ShiftOp}
use Rattle.pra_base.specs.declared.ids.ShiftOp.TheVariants.{Shl, Shr, Sar}
use Rattle.pra_base.specs.declared.ids.Cond.TheVariants.{B, Ae, E, Ne, Be, A, S, Ns, L, Ge, Le, G}
use Rattle.ia_code.specs.declared.ins.Rm.TheVariants as rm
use Rattle.ia_code.specs.declared.ins.AluOp.{AluOp}
use Rattle.ia_code.specs.declared.ins.AluOp.TheVariants.{Add, Or, And, Sub, Xor, Cmp}
use Rattle.ia_code.specs.declared.ins.Ins.{Ins}
use Rattle.ia_code.specs.declared.ins.Ins.TheVariants.{MovRmR, MovRRm, MovRI, MovRmI, AluRmR}
use Rattle.ia_code.specs.declared.ins.Ins.TheVariants.{AluRRm, AluRmI, AluRmB, ImulRRm, ImulI}
use Rattle.ia_code.specs.declared.ins.Ins.TheVariants.{ImulB, Neg, Shift, Idiv, Cdq, Lea, PushR}
use Rattle.ia_code.specs.declared.ins.Ins.TheVariants.{PopR}
use Rattle.ia_code.specs.declared.ins.Ins.TheVariants.{PushM, PushI, Call, Ret, RetI, Jmp, Jcc, Set}
use Rattle.ia_code.specs.declared.ins.Ins.TheVariants.{Movzx, Xchg, Test, Int}
use Rattle.ia_list.specs.declared.forms.Form.{Form}
use Rattle.ia_list.specs.declared.forms.Form.TheVariants as form
use Rattle.ia_list.specs.declared.forms.Operands.{Operands}
use Rattle.ia_list.specs.declared.forms.Operands.TheVariants.{Nothing, One, Two, Number, OneNumber}
use Rattle.ia_list.specs.declared.forms.Operands.TheVariants.{TwoNumber, Target, LowByte}
use Rattle.ia_list.specs.declared.forms.Operands.TheVariants.{OneLowByte}
use Rattle.ia_list.specs.declared.forms.Shape.{Shape}
use Rattle.ia_list.specs.declared.forms.Shape.TheVariants as shape

-- Names.

abbrev pub op_name : AluOp → List ℕ
op_name Add = codes "add"
op_name Or = codes "or"
op_name And = codes "and"
op_name Sub = codes "sub"
op_name Xor = codes "xor"
op_name Cmp = codes "cmp"

abbrev pub shift_name : ShiftOp → List ℕ
shift_name Shl = codes "shl"
shift_name Shr = codes "shr"
shift_name Sar = codes "sar"

abbrev pub cond_name : Cond → List ℕ
cond_name B = codes "b"
cond_name Ae = codes "ae"
cond_name E = codes "e"
cond_name Ne = codes "ne"
cond_name Be = codes "be"
cond_name A = codes "a"
cond_name S = codes "s"
cond_name Ns = codes "ns"
cond_name L = codes "l"
cond_name Ge = codes "ge"
cond_name Le = codes "le"
cond_name G = codes "g"

-- a name has two parts
abbrev pub stem : Form → List ℕ
stem form.MovMr = codes "mov"
stem form.MovRm = codes "mov"
stem form.MovRi = codes "mov"
stem form.MovMi = codes "mov"
stem (form.AluMr op) = op_name op
stem (form.AluRm op) = op_name op
stem (form.AluMi op) = op_name op
stem (form.AluMb op) = op_name op
stem form.ImulRm = codes "imul"
stem form.ImulI = codes "imul"
stem form.ImulB = codes "imul"
stem form.Neg = codes "neg"
stem (form.Shift op) = shift_name op
stem form.Idiv = codes "idiv"
stem form.Cdq = codes "cdq"
stem form.Lea = codes "lea"
stem form.PushR = codes "push"
stem form.PushM = codes "push"
stem form.PushI = codes "push"
stem form.Pop = codes "pop"
stem form.Call = codes "call"
stem form.Ret = codes "ret"
stem form.RetI = codes "ret"
stem form.Jmp = codes "jmp"
stem (form.Jcc c) = codes "j"
stem (form.Set c) = codes "set"
stem form.Movzx = codes "movzx"
stem form.Xchg = codes "xchg"
stem form.Test = codes "test"
stem form.Int = codes "int"

abbrev pub ending : Form → List ℕ
ending form.MovMr = codes ".mr"
ending form.MovRm = codes ".rm"
ending form.MovRi = codes ".ri"
ending form.MovMi = codes ".mi"
ending (form.AluMr op) = codes ".mr"
ending (form.AluRm op) = codes ".rm"
ending (form.AluMi op) = codes ".mi"
ending (form.AluMb op) = codes ".mb"
ending form.ImulRm = codes ".rm"
ending form.ImulI = codes ".i"
ending form.ImulB = codes ".b"
ending (form.Shift op) = codes ".r"
ending form.PushR = codes ".r"
ending form.PushM = codes ".m"
ending form.PushI = codes ".i"
ending form.RetI = codes ".i"
ending (form.Jcc c) = cond_name c
ending (form.Set c) = cond_name c
ending _ = []

abbrev pub name : Form → List ℕ
name f = stem f ++ ending f

-- The operands of each form.

abbrev pub shape_of : Form → Shape
shape_of form.MovMr = shape.Two
shape_of form.MovRm = shape.Two
shape_of form.MovRi = shape.OneNumber
shape_of form.MovMi = shape.OneNumber
shape_of (form.AluMr op) = shape.Two
shape_of (form.AluRm op) = shape.Two
shape_of (form.AluMi op) = shape.OneNumber
shape_of (form.AluMb op) = shape.OneNumber
shape_of form.ImulRm = shape.Two
shape_of form.ImulI = shape.TwoNumber
shape_of form.ImulB = shape.TwoNumber
shape_of form.Neg = shape.One
shape_of (form.Shift op) = shape.OneNumber
shape_of form.Idiv = shape.One
shape_of form.Cdq = shape.Nothing
shape_of form.Lea = shape.Two
shape_of form.PushR = shape.One
shape_of form.PushM = shape.One
shape_of form.PushI = shape.Number
shape_of form.Pop = shape.One
shape_of form.Call = shape.Target
shape_of form.Ret = shape.Nothing
shape_of form.RetI = shape.Number
shape_of form.Jmp = shape.Target
shape_of (form.Jcc c) = shape.Target
shape_of (form.Set c) = shape.LowByte
shape_of form.Movzx = shape.OneLowByte
shape_of form.Xchg = shape.Two
shape_of form.Test = shape.Two
shape_of form.Int = shape.Number

-- where a jump goes that ends at this place, modulo 2^32
abbrev pub target : ℕ → ℤ → ℕ
target next to = sum32 next (word to)

-- the form and the operands of an instruction that ends at this place
abbrev pub parts : ℕ → Ins → Form × Operands
parts next (MovRmR to from) = (form.MovMr, Two to (rm.Reg from))
parts next (MovRRm to from) = (form.MovRm, Two (rm.Reg to) from)
parts next (MovRI to n) = (form.MovRi, OneNumber (rm.Reg to) n)
parts next (MovRmI to n) = (form.MovMi, OneNumber to n)
parts next (AluRmR op to from) = (form.AluMr op, Two to (rm.Reg from))
parts next (AluRRm op to from) = (form.AluRm op, Two (rm.Reg to) from)
parts next (AluRmI op to n) = (form.AluMi op, OneNumber to n)
parts next (AluRmB op to n) = (form.AluMb op, OneNumber to n)
parts next (ImulRRm to from) = (form.ImulRm, Two (rm.Reg to) from)
parts next (ImulI to from n) = (form.ImulI, TwoNumber (rm.Reg to) from n)
parts next (ImulB to from n) = (form.ImulB, TwoNumber (rm.Reg to) from n)
parts next (Neg to) = (form.Neg, One to)
parts next (Shift op to n) = (form.Shift op, OneNumber to (pos n))
parts next (Idiv by) = (form.Idiv, One by)
parts next Cdq = (form.Cdq, Nothing)
parts next (Lea to from) = (form.Lea, Two (rm.Reg to) (rm.Mem from))
parts next (PushR from) = (form.PushR, One (rm.Reg from))
parts next (PushM from) = (form.PushM, One (rm.Mem from))
parts next (PushI n) = (form.PushI, Number n)
parts next (PopR to) = (form.Pop, One (rm.Reg to))
parts next (Call to) = (form.Call, Target (target next to))
parts next Ret = (form.Ret, Nothing)
parts next (RetI n) = (form.RetI, Number (pos n))
parts next (Jmp to) = (form.Jmp, Target (target next to))
parts next (Jcc c to) = (form.Jcc c, Target (target next to))
parts next (Set c to) = (form.Set c, LowByte to)
parts next (Movzx to from) = (form.Movzx, OneLowByte (rm.Reg to) from)
parts next (Xchg to with) = (form.Xchg, Two (rm.Reg to) (rm.Reg with))
parts next (Test left right) = (form.Test, Two (rm.Reg left) (rm.Reg right))
parts next (Int n) = (form.Int, Number (pos n))
