-- The instructions of the machine that placed code becomes. A jump names the block or the stub that
-- it goes to, a call the procedure; distances are a matter of `Code`.
use Rattle.std.specs.Prelude.{ℕ, zero, suc, ◌+◌, ◌*◌, ◌%◌, ℤ, pos, neg_ℤ, if◌then◌else◌, List, []}
use Rattle.std.specs.Prelude.{◌∷◌, ◌++◌}
use Rattle.std.specs.Prelude.{Option, Some, None, option_map, nat_eq, flat_map}
use Rattle.ia_code.specs.declared.ins.Reg.{Reg}
use Rattle.ia_code.specs.declared.ins.Reg.TheVariants.{Eax, Ecx, Ebx, Esp, Ebp, Esi, Edi}
use Rattle.ia_code.specs.declared.ins.Width.TheVariants.{D8, D32}
use Rattle.ia_code.specs.declared.ins.MemAddr.{MemAddr}
use Rattle.ia_code.specs.declared.ins.Rm.{Rm}
use Rattle.ia_code.specs.declared.ins.Rm.TheVariants as rm
use Rattle.ia_code.specs.declared.ins.AluOp.{AluOp}
use Rattle.ia_code.specs.declared.ins.AluOp.TheVariants as alu
use Rattle.ia_code.specs.declared.ins.Ins.{Ins}
use Rattle.ia_code.specs.declared.ins.Ins.TheVariants as ins
use Rattle.ia_code.specs.declared.services.Service.{Service}
use Rattle.ia_code.specs.declared.services.Service.TheVariants as service
use Rattle.ia_code.specs.Regions.{stack_base, reserve}
use Rattle.ia_code.specs.Services.{service_number}
use Rattle.net_form.specs.Tables.{is_short}
use Rattle.ia_emit.specs.declared.item.Item.{Item}
use Rattle.ia_emit.specs.declared.item.Item.TheVariants.{Plain, Jump, Branch, Call}
use Rattle.ia_emit.specs.declared.item.Target.TheVariants.{Block, Stub}
use Rattle.ia_emit.specs.declared.item.Operand.{Operand}
use Rattle.ia_emit.specs.declared.item.Operand.TheVariants.{Register, Memory, Number}
use Rattle.ia_emit.specs.Operands.{register_at, locals, cell, operand, object_word, frame_word}
use Rattle.pl_moves.specs.declared.transfer.Move.{Move}
use Rattle.pl_moves.specs.declared.transfer.Move.TheVariants as move
use Rattle.pl_place.specs.declared.placed.LBlock.{LBlock}
use Rattle.pl_place.specs.declared.placed.LInstr.{LInstr}
use Rattle.pl_place.specs.declared.placed.LInstr.TheVariants as placed
use Rattle.pl_place.specs.declared.placed.LProc.{LProc}
use Rattle.pl_place.specs.Placed.{place_in}
use Rattle.pra_base.specs.declared.code.Addr.{Addr}
use Rattle.pra_base.specs.declared.code.Base.{Base}
use Rattle.pra_base.specs.declared.code.Base.TheVariants.{Via}
use Rattle.pra_base.specs.declared.code.End.{End}
use Rattle.pra_base.specs.declared.code.End.TheVariants as end
use Rattle.pra_base.specs.declared.code.VInstr.{VInstr}
use Rattle.pra_base.specs.declared.code.VInstr.TheVariants as instr
use Rattle.pra_base.specs.declared.event.TrapKind.TheVariants.{Index, Divide, Stack}
use Rattle.pra_base.specs.declared.ids.BlockId.{BlockId}
use Rattle.pra_base.specs.declared.ids.Cond.TheVariants as cond
use Rattle.pra_base.specs.declared.ids.Place.{Place}
use Rattle.pra_base.specs.declared.ids.VarId.{VarId}
use Rattle.pra_base.specs.Places.{number}

-- ---- operands

-- where the machine reads or writes a register or memory
abbrev pub rm_of : Operand → Rm
rm_of (Register r) = rm.Reg r
rm_of (Memory a) = rm.Mem a
rm_of (Number n) = rm.Reg Eax

abbrev pub reg_of : Operand → Reg
reg_of (Register r) = r
reg_of _ = Eax

-- ---- moves

abbrev pub place_reg : Place → Reg
place_reg q = register_at (number q)

abbrev pub emit_move : LProc → Move → Ins
emit_move p (move.Copy to from) = ins.MovRmR (rm.Reg (place_reg to)) (place_reg from)
emit_move p (move.Swap a b) = ins.Xchg (place_reg a) (place_reg b)
emit_move p (move.Load to v) = ins.MovRRm (place_reg to) (rm.Mem (cell p v.0))
emit_move p (move.Store v from) = ins.MovRmR (rm.Mem (cell p v.0)) (place_reg from)
emit_move p (move.Set to n) = ins.MovRI (place_reg to) n

-- ---- instructions whose form follows their operands

-- MOV of a number
abbrev pub set : Operand → ℤ → Ins
set (Register r) n = ins.MovRI r n
set to n = ins.MovRmI (rm_of to) n

-- MOV
abbrev pub copy : Operand → Operand → Ins
copy to (Register r) = ins.MovRmR (rm_of to) r
copy to from = ins.MovRRm (reg_of to) (rm_of from)

-- an operation or CMP with a number, which is short where it fits a byte
abbrev pub alu_number : AluOp → Operand → ℤ → Ins
alu_number op to n =
    if is_short n then ins.AluRmB op (rm_of to) n else ins.AluRmI op (rm_of to) n

abbrev pub combine : AluOp → Operand → Operand → Ins
combine op to (Register r) = ins.AluRmR op (rm_of to) r
combine op to (Memory a) = ins.AluRRm op (reg_of to) (rm.Mem a)
combine op to (Number n) = alu_number op to n

abbrev pub multiply_number : Reg → ℤ → Ins
multiply_number r n =
    if is_short n then ins.ImulB r (rm.Reg r) n else ins.ImulI r (rm.Reg r) n

abbrev pub multiply : Reg → Operand → Ins
multiply r (Number n) = multiply_number r n
multiply r from = ins.ImulRRm r (rm_of from)

abbrev pub push : Operand → Ins
push (Register r) = ins.PushR r
push (Memory a) = ins.PushM a
push (Number n) = ins.PushI n

abbrev pub store : MemAddr → Operand → Ins
store a (Number n) = ins.MovRmI (rm.Mem a) n
store a from = ins.MovRmR (rm.Mem a) (reg_of from)

abbrev pub call_service : Service → Item
call_service s = Plain (ins.Int (service_number s))

-- ---- addresses

-- how many variables an address names in front of its index
abbrev pub via_count : Base → ℕ
via_count (Via v) = 1
via_count _ = 0

abbrev pub index_count : Option VarId → ℕ
index_count (Some v) = 1
index_count None = 0

abbrev pub address_count : Addr → ℕ
address_count a = via_count a.base + index_count a.index

-- the address of the word, where its variables are the first operands
abbrev pub address : LProc → Addr → List Place → MemAddr
address p a places =
    object_word p a.base (register_at (place_in places 0)) a.offset
    (option_map (λ (v : VarId). (register_at (place_in places (via_count a.base)), 4)) a.index)

-- ---- instructions

-- CMP with 0 or a bound, and a jump to the stub of a trap
abbrev pub bound : Operand → ℤ → Ins
bound i n = alu_number alu.Cmp i n

-- The loop that clears aggregate words: ECX counts from their number down to 1, and the last jump
-- goes back over itself, the SUB and the MOV.
abbrev pub clear : LProc → List Item
clear p =
    Plain (ins.MovRI Ecx (pos p.aggregates))
    ∷ Plain (ins.MovRmI (rm.Mem (last_word p)) (pos 0))
    ∷ Plain (ins.AluRmB alu.Sub (rm.Reg Ecx) (pos 1))
    ∷ Plain (ins.Jcc cond.Ne (neg_ℤ (pos 20)))
    ∷ []
  where
    -- the word that ECX counts, from 1 on
    last_word : LProc → MemAddr
    last_word p = record {
      base = Some Ebp;
      index = Some (Ecx, 4);
      disp = neg_ℤ (pos (16 + 4 * locals p));
      width = D32;
    }

-- the operand at number k, which is the variable's place there
abbrev pub at : LProc → List Place → VarId → ℕ → Operand
at p places v k = operand p v.0 (place_in places k)

abbrev pub operation : LProc → List Place → AluOp → VarId → VarId → List Item
operation p places op v s = Plain (combine op (at p places v 0) (at p places s 1)) ∷ []

-- what the instruction becomes, with the places of its operands: of those that it reads, then of
-- those that it writes
abbrev pub emit_op : LProc → VInstr → List Place → List Item
emit_op p (instr.Set v n) places = Plain (set (at p places v 0) n) ∷ []
emit_op p (instr.Copy v s) places = Plain (copy (at p places v 1) (at p places s 0)) ∷ []
emit_op p (instr.Add v s) places = operation p places alu.Add v s
emit_op p (instr.Sub v s) places = operation p places alu.Sub v s
emit_op p (instr.And v s) places = operation p places alu.And v s
emit_op p (instr.Or v s) places = operation p places alu.Or v s
emit_op p (instr.Xor v s) places = operation p places alu.Xor v s
emit_op p (instr.Mul v s) places =
    Plain (multiply (reg_of (at p places v 0)) (at p places s 1)) ∷ []
emit_op p (instr.Neg v) places = Plain (ins.Neg (rm_of (at p places v 0))) ∷ []
emit_op p (instr.Shift op v n) places =
    Plain (ins.Shift op (rm_of (at p places v 0)) (n % 32)) ∷ []
emit_op p (instr.Cmp a b) places = operation p places alu.Cmp a b
emit_op p (instr.CmpSet c v a b) places =
    let r = reg_of (at p places v 2) in
    operation p places alu.Cmp a b ++ Plain (ins.Set c r) ∷ Plain (ins.Movzx r r) ∷ []
emit_op p (instr.DivMod q r a d) places =
    Plain ins.Cdq ∷ Plain (ins.Idiv (rm_of (at p places d 1))) ∷ []
emit_op p (instr.Check i n) places =
    Plain (bound (at p places i 0) n) ∷ Branch cond.Ae (Stub Index) ∷ []
emit_op p (instr.CheckPos d) places =
    Plain (bound (at p places d 0) (pos 0)) ∷ Branch cond.Le (Stub Divide) ∷ []
emit_op p (instr.Load v a) places =
    Plain (ins.MovRRm (reg_of (at p places v (address_count a))) (rm.Mem (address p a places))) ∷ []
emit_op p (instr.Store a s) places =
    Plain (store (address p a places) (at p places s (address_count a))) ∷ []
emit_op p (instr.Addr v a) places =
    Plain (ins.Lea (reg_of (at p places v (address_count a))) (address p a places)) ∷ []
emit_op p (instr.Push s) places = Plain (push (at p places s 0)) ∷ []
emit_op p (instr.Call q) places = Call q ∷ []
emit_op p (instr.Read v) places = call_service service.ReadNumber ∷ []
emit_op p (instr.Write s) places = call_service service.WriteNumber ∷ []
emit_op p instr.Line places = call_service service.WriteLine ∷ []
emit_op p instr.Clear places = clear p

abbrev pub emit : LProc → LInstr → List Item
emit p (placed.Op i places) = emit_op p i places.items
emit p (placed.Move m) = Plain (emit_move p m) ∷ []

-- ---- blocks

-- the jump to a block, or nothing where it is the next one
abbrev pub jump_to : ℕ → BlockId → List Item
jump_to next b = if nat_eq b.0 next then [] else Jump (Block b) ∷ []

-- a return takes the arguments from the stack
abbrev pub return : ℕ → Ins
return zero = ins.Ret
return (suc n) = ins.RetI (4 * suc n)

-- the saved registers lie right below EBP, wherever ESP is
abbrev pub leave : LProc → List Item
leave p =
    Plain (ins.Lea Esp (frame_word D8 (neg_ℤ (pos 12))))
    ∷ Plain (ins.PopR Edi)
    ∷ Plain (ins.PopR Esi)
    ∷ Plain (ins.PopR Ebx)
    ∷ Plain (ins.PopR Ebp)
    ∷ Plain (return p.args)
    ∷ []

abbrev pub emit_end : LProc → ℕ → End → List Item
emit_end p next (end.Jump b) = jump_to next b
emit_end p next (end.Branch c one other) = Branch c (Block one) ∷ jump_to next other
emit_end p next end.Return = leave p

abbrev pub emit_block : LProc → ℕ → LBlock → List Item
emit_block p k b = flat_map (emit p) b.code ++ emit_end p (k + 1) b.end

abbrev pub emit_blocks : LProc → ℕ → List LBlock → List Item
emit_blocks p k [] = []
emit_blocks p k (b ∷ bs) = emit_block p k b ++ emit_blocks p (k + 1) bs

-- ---- procedures

-- the lowest address at which EBP may stand, so that the saved registers, the aggregates and the
-- slots lie above the reserve
abbrev pub lowest_frame : LProc → ℕ
lowest_frame p = stack_base + reserve + 12 + 4 * locals p

abbrev pub lowered : ℕ → List Item
lowered zero = []
lowered (suc n) = Plain (ins.AluRmI alu.Sub (rm.Reg Esp) (pos (4 * suc n))) ∷ []

abbrev pub prologue : LProc → List Item
prologue p =
    Plain (ins.PushR Ebp)
    ∷ Plain (ins.MovRmR (rm.Reg Ebp) Esp)
    ∷ Plain (ins.AluRmI alu.Cmp (rm.Reg Ebp) (pos (lowest_frame p)))
    ∷ Branch cond.B (Stub Stack)
    ∷ Plain (ins.PushR Ebx)
    ∷ Plain (ins.PushR Esi)
    ∷ Plain (ins.PushR Edi)
    ∷ lowered (locals p)

abbrev pub emit_proc : LProc → List Item
emit_proc p = prologue p ++ emit_blocks p 0 p.blocks
