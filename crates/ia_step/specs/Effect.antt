-- What each instruction does, in the order of the table of their bytes, as on the instruction's
-- page in SDM volume 2. The parts of their operations come first, the instructions at the end. When
-- one is executed, EIP is already that of the next instruction. One that faults leaves nothing
-- behind: the fault alone is its result.
use Rattle.std.specs.Prelude.{ℕ, ℤ, ◌+◌, ◌-◌, ◌*◌, ◌%◌, ◌^◌, ◌&&◌, nat_le, if◌then◌else◌}
use Rattle.std.specs.Prelude.{Bool, true, false, List, [], ◌∷◌, length, Option, Some, None, Result}
use Rattle.std.specs.Prelude.{Ok, Err}
use Rattle.std.specs.Int.Bits.{bit_and}
use Rattle.pra_base.specs.declared.event.TrapKind.{TrapKind}
use Rattle.pra_base.specs.declared.event.TrapKind.TheVariants as trap
use Rattle.pra_base.specs.declared.ids.ShiftOp.{ShiftOp}
use Rattle.ia_code.specs.declared.ins.Reg.{Reg}
use Rattle.ia_code.specs.declared.ins.Reg.TheVariants.{Eax, Edx, Esp}
use Rattle.ia_code.specs.declared.ins.Rm.{Rm}
use Rattle.ia_code.specs.declared.ins.Rm.TheVariants as rm
use Rattle.ia_code.specs.declared.ins.AluOp.{AluOp}
use Rattle.ia_code.specs.declared.ins.AluOp.TheVariants.{Cmp}
use Rattle.ia_code.specs.declared.ins.Ins.{Ins}
use Rattle.ia_code.specs.declared.ins.Ins.TheVariants.{MovRmR, MovRRm, MovRI, MovRmI, AluRmR}
use Rattle.ia_code.specs.declared.ins.Ins.TheVariants.{AluRRm, AluRmI, AluRmB, ImulRRm, ImulI}
use Rattle.ia_code.specs.declared.ins.Ins.TheVariants.{ImulB, Neg, Shift, Idiv, Cdq, Lea, PushR}
use Rattle.ia_code.specs.declared.ins.Ins.TheVariants.{PopR}
use Rattle.ia_code.specs.declared.ins.Ins.TheVariants.{PushM, PushI, Call, Ret, RetI, Jmp, Jcc, Set}
use Rattle.ia_code.specs.declared.ins.Ins.TheVariants.{Movzx, Xchg, Test, Int}
use Rattle.ia_step.specs.declared.out.FaultKind.{FaultKind}
use Rattle.ia_step.specs.declared.out.FaultKind.TheVariants as fault
use Rattle.ia_step.specs.declared.out.StepOut.{StepOut}
use Rattle.ia_step.specs.declared.out.StepOut.TheVariants as out
use Rattle.ia_code.specs.declared.services.Service.{Service}
use Rattle.ia_code.specs.declared.services.Service.TheVariants as services
use Rattle.ia_code.specs.Services.{service_of, trap_of}
use Rattle.ia_code.specs.Regions.{data_base, stack_base}
use Rattle.pra_base.specs.Words.{word, signed, sign, sum32, diff32, product32, shifted, truth}
use Rattle.ia_step.specs.declared.out.Ending.TheVariants as ending
use Rattle.ia_step.specs.Registers.{get, address_of}
use Rattle.ia_step.specs.Memory.{word_in, with_word}
use Rattle.ia_step.specs.Arithmetic.{diff_flags, bit_flags, product_flags, no_flags, result_of}
use Rattle.ia_step.specs.Arithmetic.{flags_of, shift_flags, quotient, with_low_byte, holds}
use Rattle.ia_step.specs.State.{State, with_register, with_flags, at, over}
use Rattle.pra_list.specs.Results.{◌>>=◌}

-- the state that an instruction leaves and what it tells, or the fault that it meets
abbrev pub Done : Type 0
Done = Result (State × StepOut) FaultKind

abbrev pub goes : State → Done
goes s = Ok (s, out.Going)

-- Memory: a doubleword lies wholly in data or stack, at any alignment, else Access

abbrev pub lies_in : ℕ → ℕ → List ℕ → Bool
lies_in a base region = nat_le base a && nat_le (a + 4) (base + length region)

unfoldable pub load : State → ℕ → Result ℕ FaultKind
load s a =
    if lies_in a data_base s.storage then Ok (word_in s.storage (a - data_base))
    else if lies_in a stack_base s.stack then Ok (word_in s.stack (a - stack_base))
    else Err fault.Access

unfoldable pub store : State → ℕ → ℕ → Result State FaultKind
store s a v =
    if lies_in a data_base s.storage then
    Ok (record s { storage = with_word s.storage (a - data_base) v })
    else if lies_in a stack_base s.stack then
    Ok (record s { stack = with_word s.stack (a - stack_base) v })
    else Err fault.Access

-- The operand of ModRM's rm field: a register, or a doubleword in memory

unfoldable pub read_rm : State → Rm → Result ℕ FaultKind
read_rm s (rm.Reg r) = Ok (get s.regs r)
read_rm s (rm.Mem a) = load s (address_of s.regs a)

unfoldable pub write_rm : State → Rm → ℕ → Result State FaultKind
write_rm s (rm.Reg r) v = Ok (with_register s r v)
write_rm s (rm.Mem a) v = store s (address_of s.regs a) v

-- Push(v): ESP := ESP - 4; Memory[ESP] := v, where v was computed before
unfoldable pub push : State → ℕ → Result State FaultKind
push s v = do
  t ← store s (diff32 s.regs.esp 4) v
  Ok (with_register t Esp (diff32 s.regs.esp 4))

-- Pop(): Memory[ESP], and then ESP := ESP + 4
unfoldable pub pop : State → Result (ℕ × State) FaultKind
pop s = do
  v ← load s s.regs.esp
  Ok (v, with_register s Esp (sum32 s.regs.esp 4))

-- MOV: DEST := SRC
unfoldable pub mov : State → Rm → ℕ → Done
mov s dest src = write_rm s dest src >>= goes

-- ADD, OR, AND, SUB, XOR: DEST := DEST op SRC. CMP: DEST stays. Flags: by the result.
abbrev pub keep_result : AluOp → State → Rm → ℕ → Result State FaultKind
keep_result Cmp s dest v = Ok s
keep_result _ s dest v = write_rm s dest v

unfoldable pub alu : AluOp → State → Rm → ℕ → Done
alu op s dest src = do
  v ← read_rm s dest
  t ← keep_result op s dest (result_of op v src)
  goes (with_flags t (flags_of op v src))

-- IMUL: DEST := SRC1 * SRC2, truncated. Flags: CF and OF set where the signed product does not fit,
-- ZF and SF unknown.
unfoldable pub imul : State → Reg → ℕ → ℕ → Done
imul s dest a b = goes (with_flags (with_register s dest (product32 a b)) (product_flags a b))

-- NEG: DEST := 0 - DEST. Flags: by that difference, so CF is clear only where DEST is 0.
unfoldable pub neg : State → Rm → Done
neg s dest = do
  v ← read_rm s dest
  t ← write_rm s dest (diff32 0 v)
  goes (with_flags t (diff_flags 0 v))

-- SHL, SHR, SAR: DEST := DEST shifted by COUNT, of which the low five bits count. Flags: ZF and SF
-- by the result, CF and OF unknown, and none by a count of 0.
unfoldable pub shift : ShiftOp → State → Rm → ℕ → Done
shift op s dest n = do
  v ← read_rm s dest
  t ← write_rm s dest (shifted op v n)
  goes (with_flags t (shift_flags s.flags (shifted op v n) n))

-- IDIV: EAX := EDX:EAX / SRC; EDX := the remainder; both signed, truncated. Flags: all unknown.
-- Divide: SRC is 0, or the quotient does not fit.
abbrev pub divided : State → Option (ℕ × ℕ) → Done
divided s None = Err fault.Divide
divided s (Some x) = goes (with_flags (with_register (with_register s Eax x.0) Edx x.1) no_flags)

unfoldable pub idiv : State → ℕ → Done
idiv s src = divided s (quotient (s.regs.edx * 2 ^ 32 + s.regs.eax) src)

-- CDQ: the sign bit in each bit
abbrev pub sign_word : ℕ → ℕ
sign_word v = if sign v then 2 ^ 32 - 1 else 0

-- CALL, JMP, Jcc: EIP := EIP + displacement, modulo 2^32
abbrev pub jump : State → ℤ → State
jump s d = at s (sum32 s.eip (word d))

-- Jcc: jumps where the condition is met. Flag: a flag that the condition names is unknown.
abbrev pub branch : State → ℤ → Option Bool → Done
branch s d None = Err fault.Flag
branch s d (Some true) = goes (jump s d)
branch s d (Some false) = goes s

-- SETcc: the low byte of DEST is 1 where the condition is met, and else 0; its other bytes stay.
-- Flag: as Jcc.
abbrev pub set : State → Reg → Option Bool → Done
set s dest None = Err fault.Flag
set s dest (Some b) = goes (with_register s dest (with_low_byte (get s.regs dest) (truth b)))

-- INT: the services of the host. They change nothing else but EIP.

-- 23h: EAX := the next input word, or the trap Input where none is left
abbrev pub take_input : State → List ℤ → Done
take_input s [] = Ok (over s (ending.Trap trap.Input), out.Trap trap.Input)
take_input s (n ∷ rest) =
    goes (record (with_register s Eax (word n)) { input = rest; taken = s.taken + 1 })

-- 24h: the trap whose number EAX holds. Service: there is none of this number.
abbrev pub trapped : State → Option TrapKind → Done
trapped s None = Err fault.Service
trapped s (Some k) = Ok (over s (ending.Trap k), out.Trap k)

-- 20h ends the program, 21h writes EAX as a signed number, 22h writes the end of a line. Service:
-- no service has this number.
abbrev pub serve : State → Option Service → Done
serve s None = Err fault.Service
serve s (Some services.End) = Ok (over s ending.Ended, out.Ended)
serve s (Some services.WriteNumber) = Ok (s, out.Wrote (signed s.regs.eax))
serve s (Some services.WriteLine) = Ok (s, out.Line)
serve s (Some services.ReadNumber) = take_input s s.input
serve s (Some services.Trap) = trapped s (trap_of s.regs.eax)

unfoldable pub service : State → ℕ → Done
service s k = serve s (service_of k)

-- The instructions: opcode, operation, flags changed, faults. An immediate of 8 bits is
-- sign-extended.
unfoldable pub effect : State → Ins → Done
-- MOV: 89 /r, 8B /r, B8+r id, C7 /0 id
-- DEST := SRC. Flags: none. Access.
effect s (MovRmR dest src) = mov s dest (get s.regs src)
effect s (MovRRm dest src) = read_rm s src >>= mov s (rm.Reg dest)
effect s (MovRI dest n) = mov s (rm.Reg dest) (word n)
effect s (MovRmI dest n) = mov s dest (word n)
-- ADD, OR, AND, SUB, XOR, CMP: 01+8n /r, 03+8n /r, 81 /n id, 83 /n ib, where n is 0, 1, 4, 5, 6, 7
-- DEST := DEST op SRC, but DEST stays in CMP. Flags: all four. Access.
effect s (AluRmR op dest src) = alu op s dest (get s.regs src)
effect s (AluRRm op dest src) = read_rm s src >>= alu op s (rm.Reg dest)
effect s (AluRmI op dest n) = alu op s dest (word n)
effect s (AluRmB op dest n) = alu op s dest (word n)
-- IMUL: 0F AF /r, 69 /r id, 6B /r ib
-- DEST := DEST * SRC, or DEST := SRC1 * SRC2. Flags: CF, OF; ZF, SF unknown. Access.
effect s (ImulRRm dest src) = read_rm s src >>= imul s dest (get s.regs dest)
effect s (ImulI dest src n) = read_rm s src >>= imul s dest (word n)
effect s (ImulB dest src n) = read_rm s src >>= imul s dest (word n)
-- NEG: F7 /3
-- DEST := 0 - DEST. Flags: all four. Access.
effect s (Neg dest) = neg s dest
-- SHL, SHR, SAR: C1 /4, /5, /7 ib
-- DEST := DEST shifted by COUNT. Flags: ZF, SF; CF, OF unknown. Access.
effect s (Shift op dest n) = shift op s dest n
-- IDIV: F7 /7
-- EAX := EDX:EAX / SRC; EDX := EDX:EAX mod SRC. Flags: all four unknown. Access, Divide.
effect s (Idiv src) = read_rm s src >>= idiv s
-- CDQ: 99
-- EDX := the sign of EAX. Flags: none.
effect s Cdq = goes (with_register s Edx (sign_word s.regs.eax))
-- LEA: 8D /r
-- DEST := the effective address. Flags: none. Memory is not read.
effect s (Lea dest a) = goes (with_register s dest (address_of s.regs a))
-- PUSH: 50+r, FF /6, 68 id
-- Push(SRC), where SRC is computed before ESP is lowered. Flags: none. Access.
effect s (PushR src) = push s (get s.regs src) >>= goes
effect s (PushM src) = do
  v ← load s (address_of s.regs src)
  t ← push s v
  goes t
effect s (PushI n) = push s (word n) >>= goes
-- POP: 58+r
-- DEST := Pop(). Flags: none. Access.
effect s (PopR dest) = do
  x ← pop s
  goes (with_register x.1 dest x.0)
-- CALL: E8 rel32
-- Push(EIP); EIP := EIP + rel32. Flags: none. Access.
effect s (Call d) = do
  t ← push s s.eip
  goes (jump t d)
-- RET: C3
-- EIP := Pop(). Flags: none. Access.
effect s Ret = do
  x ← pop s
  goes (at x.1 x.0)
-- RET imm16: C2 iw
-- EIP := Pop(); ESP := ESP + imm16. Flags: none. Access.
effect s (RetI n) = do
  x ← pop s
  goes (with_register (at x.1 x.0) Esp (sum32 x.1.regs.esp n))
-- JMP: E9 rel32
-- EIP := EIP + rel32. Flags: none.
effect s (Jmp d) = goes (jump s d)
-- Jcc: 0F 80+cc rel32
-- IF condition THEN EIP := EIP + rel32. Flags: none. Flag.
effect s (Jcc c d) = branch s d (holds s.flags c)
-- SETcc: 0F 90+cc /0, of AL, CL, DL and BL
-- DEST := IF condition THEN 1 ELSE 0, of the low byte alone. Flags: none. Flag.
effect s (Set c dest) = set s dest (holds s.flags c)
-- MOVZX: 0F B6 /r, from AL, CL, DL and BL
-- DEST := ZeroExtend(SRC). Flags: none.
effect s (Movzx dest src) = goes (with_register s dest (get s.regs src % 256))
-- XCHG: 87 /r
-- temp := DEST; DEST := SRC; SRC := temp. Flags: none.
effect s (Xchg dest src) =
    goes (with_register (with_register s dest (get s.regs src)) src (get s.regs dest))
-- TEST: 85 /r
-- temp := SRC1 AND SRC2, which is not kept. Flags: all four, by temp.
effect s (Test a b) = goes (with_flags s (bit_flags (bit_and (get s.regs a) (get s.regs b))))
-- INT: CD ib
-- The service of that number. Flags: none. Service.
effect s (Int k) = service s k
