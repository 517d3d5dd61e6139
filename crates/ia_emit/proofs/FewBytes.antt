-- How many bytes placed code becomes at most.
use Rattle.std.specs.Prelude.{◌%◌}
use Rattle.std.proofs.Common.{◌≡◌, ℕ, zero, suc, ◌+◌, ◌*◌, ◌≤◌, ◌<◌, Bool, true, false, List, []}
use Rattle.std.proofs.Common.{◌∷◌, ◌++◌, length, map, take, refl, arith, length-append, Option}
use Rattle.std.proofs.Common.{Some, None, slice_get}
use Rattle.std.specs.Prelude.{ℤ, pos, if◌then◌else◌, nat_eq, flat_map}
use Rattle.std.specs.List.{sum_by, filter_map}
use Rattle.std.proofs.lemmas.List.{length-map}
use Rattle.std.proofs.lemmas.List.Sums.{sum_by-cons}
use Rattle.std.specs.Int.{w8, cast_unsigned}
use Rattle.ia_code.specs.DecodeTable.{reg_number, op_number, imm32, displacement, address, operand}
use Rattle.ia_code.specs.DecodeTable.{bytes_of, shift_number}
use Rattle.ia_code.specs.Image.{max_code_bytes}
use Rattle.ia_code.specs.declared.ins.Reg.{Reg}
use Rattle.ia_code.specs.declared.ins.Reg.TheVariants.{Esp}
use Rattle.ia_code.specs.declared.ins.Width.{Width}
use Rattle.ia_code.specs.declared.ins.Width.TheVariants.{D0, D8, D32}
use Rattle.ia_code.specs.declared.ins.Rm.{Rm}
use Rattle.ia_code.specs.declared.ins.Rm.TheVariants as rm
use Rattle.ia_code.specs.declared.ins.AluOp.TheVariants as alu
use Rattle.ia_code.specs.declared.ins.Ins.{Ins}
use Rattle.ia_code.specs.declared.ins.Ins.TheVariants.{MovRmR, MovRRm, MovRI, MovRmI, AluRmR}
use Rattle.ia_code.specs.declared.ins.Ins.TheVariants.{AluRRm, AluRmI, AluRmB, ImulRRm, ImulI}
use Rattle.ia_code.specs.declared.ins.Ins.TheVariants.{ImulB, Neg, Shift, Idiv, Cdq, Lea, PushR}
use Rattle.ia_code.specs.declared.ins.Ins.TheVariants.{PopR}
use Rattle.ia_code.specs.declared.ins.Ins.TheVariants.{PushM, PushI, Call, Ret, RetI, Jmp, Jcc, Set}
use Rattle.ia_code.specs.declared.ins.Ins.TheVariants.{Movzx, Xchg, Test, Int}
use Rattle.ia_emit.specs.declared.item.Item.{Item}
use Rattle.ia_emit.specs.declared.item.Item.TheVariants.{Plain, Jump, Branch}
use Rattle.ia_emit.specs.declared.item.Item.TheVariants as item
use Rattle.ia_emit.specs.declared.item.Target.TheVariants.{Block, Stub}
use Rattle.ia_emit.specs.Operands.{locals, width_of, memory_at}
use Rattle.ia_emit.specs.Emission.{rm_of, reg_of, at, bound, address_count, address as address_of}
use Rattle.ia_emit.specs.Emission.{operation, emit_move, emit_op, emit, jump_to, return, leave}
use Rattle.ia_emit.specs.Emission.{emit_end, emit_block, emit_blocks, lowered, prologue, emit_proc}
use Rattle.ia_emit.specs.Code.{size_of, size, code_size}
use Rattle.ia_emit.specs.Counts.{instruction_count, AreFew}
use Rattle.ia_emit.proofs.Sizes.{size-cons, size-append}
use Rattle.pl_moves.specs.declared.transfer.Move.{Move}
use Rattle.pl_moves.specs.declared.transfer.Move.TheVariants as move
use Rattle.pl_place.specs.declared.placed.LBlock.{LBlock}
use Rattle.pl_place.specs.declared.placed.LInstr.{LInstr}
use Rattle.pl_place.specs.declared.placed.LInstr.TheVariants as placed
use Rattle.pl_place.specs.declared.placed.LProc.{LProc}
use Rattle.pl_place.specs.Placed.{op_of, bare_block, bare}
use Rattle.pl_place.specs.Valid.{FewMoves, IsPlaced}
use Rattle.pra_base.specs.declared.code.End.{End}
use Rattle.pra_base.specs.declared.code.End.TheVariants as end
use Rattle.pra_base.specs.declared.code.VInstr.{VInstr}
use Rattle.pra_base.specs.declared.code.VInstr.TheVariants as instr
use Rattle.pra_base.specs.declared.event.TrapKind.TheVariants.{Index, Divide}
use Rattle.pra_base.specs.declared.ids.BlockId.{BlockId}
use Rattle.pra_base.specs.declared.ids.Cond.TheVariants as cond
use Rattle.pra_base.specs.declared.ids.Place.{Place}
use Rattle.pra_base.specs.declared.code.Block.{Block as Bare}

-- ---- instructions

few_displacement : (w : Width) (d : ℤ) → length (displacement w d) ≤ 4
few_displacement D0 d = omega arith
few_displacement D8 d = omega arith
few_displacement D32 d = omega arith

few_address : (reg : ℕ) (b : Option Reg) (x : Option (Reg × ℕ)) (w : Width) (d : ℤ) →
    length (address reg b x w d) ≤ 6
few_address reg None None w d = omega arith
few_address reg None (Some x) w d = omega arith
few_address reg (Some Esp) None w d = let few = few_displacement w d in omega (arith, few)
few_address reg (Some b) None w d = let few = few_displacement w d in omega (arith, few)
few_address reg (Some b) (Some x) w d = let few = few_displacement w d in omega (arith, few)

few_operand : (reg : ℕ) (r : Rm) → length (operand reg r) ≤ 6
few_operand reg (rm.Reg r) = omega arith
few_operand reg (rm.Mem a) = few_address reg a.base a.index a.width a.disp

with_word : (reg : ℕ) (r : Rm) (n : ℤ) → length (operand reg r ++ imm32 n) ≤ 10
with_word reg r n = omega (arith, few_operand reg r, length-append (operand reg r) (imm32 n))

with_byte : (reg : ℕ) (r : Rm) (n : ℕ) → length (operand reg r ++ n ∷ []) ≤ 7
with_byte reg r n = omega (arith, few_operand reg r, length-append (operand reg r) (n ∷ []))

coded : (op reg : ℕ) (r : Rm) → length (op ∷ operand reg r) ≤ 11
coded op reg r = omega (arith, few_operand reg r)

coded_word : (op reg : ℕ) (r : Rm) (n : ℤ) → length (op ∷ (operand reg r ++ imm32 n)) ≤ 11
coded_word op reg r n = omega (arith, with_word reg r n)

coded_byte : (op reg : ℕ) (r : Rm) (n : ℕ) → length (op ∷ (operand reg r ++ n ∷ [])) ≤ 11
coded_byte op reg r n = omega (arith, with_byte reg r n)

-- an instruction has at most eleven bytes, whatever its numbers are
most_eleven : (i : Ins) → length (bytes_of i) ≤ 11
most_eleven (MovRmR to from) = coded 0x89 (reg_number from) to
most_eleven (MovRRm to from) = coded 0x8b (reg_number to) from
most_eleven (MovRI to n) = omega arith
most_eleven (MovRmI to n) = coded_word 0xc7 0 to n
most_eleven (AluRmR op to from) = coded (8 * op_number op + 0x01) (reg_number from) to
most_eleven (AluRRm op to from) = coded (8 * op_number op + 0x03) (reg_number to) from
most_eleven (AluRmI op to n) = coded_word 0x81 (op_number op) to n
most_eleven (AluRmB op to n) = coded_byte 0x83 (op_number op) to (cast_unsigned w8 n)
most_eleven (ImulRRm to from) = omega (arith, few_operand (reg_number to) from)
most_eleven (ImulI to from n) = coded_word 0x69 (reg_number to) from n
most_eleven (ImulB to from n) = coded_byte 0x6b (reg_number to) from (cast_unsigned w8 n)
most_eleven (Neg to) = coded 0xf7 3 to
most_eleven (Shift op to n) = coded_byte 0xc1 (shift_number op) to n
most_eleven (Idiv by) = coded 0xf7 7 by
most_eleven Cdq = omega arith
most_eleven (Lea to from) = coded 0x8d (reg_number to) (rm.Mem from)
most_eleven (PushR from) = omega arith
most_eleven (PopR to) = omega arith
most_eleven (PushM from) = coded 0xff 6 (rm.Mem from)
most_eleven (PushI n) = omega arith
most_eleven (Call to) = omega arith
most_eleven Ret = omega arith
most_eleven (RetI n) = omega arith
most_eleven (Jmp to) = omega arith
most_eleven (Jcc c to) = omega arith
most_eleven (Set c to) = omega arith
most_eleven (Movzx to from) = omega arith
most_eleven (Xchg to with) = omega arith
most_eleven (Test left right) = omega arith
most_eleven (Int n) = omega arith

-- ---- what placed code becomes

one : (i : Ins) → size (Plain i ∷ []) ≤ 11
one i = let all = size-cons (Plain i) [] in omega (arith, all, most_eleven i)

single : (i : Ins) → size (Plain i ∷ []) ≤ 25
single i = omega (arith, one i)

two : (i : Ins) (x : Item) (n : ℕ) → size_of x ≡ n → size (Plain i ∷ x ∷ []) ≤ 11 + n
two i x n e =
    let all = size-cons (Plain i) (x ∷ []) in
    let last = size-cons x [] in
    omega (arith, all, last, most_eleven i, e)

few_op : (p : LProc) (i : VInstr) (places : List Place) → size (emit_op p i places) ≤ 25
few_op p (instr.Set v n) places = single _
few_op p (instr.Copy v s) places = single _
few_op p (instr.Add v s) places = single _
few_op p (instr.Sub v s) places = single _
few_op p (instr.And v s) places = single _
few_op p (instr.Or v s) places = single _
few_op p (instr.Xor v s) places = single _
few_op p (instr.Mul v s) places = single _
few_op p (instr.Neg v) places = single (Neg (rm_of (at p places v 0)))
few_op p (instr.Shift op v n) places = single (Shift op (rm_of (at p places v 0)) (n % 32))
few_op p (instr.Cmp a b) places = single _
few_op p (instr.CmpSet c v a b) places =
    let r = reg_of (at p places v 2) in
    let last : size (Plain (Set c r) ∷ Plain (Movzx r r) ∷ []) ≡ 6 = refl in
    let both = size-append (operation p places alu.Cmp a b)
    (Plain (Set c r) ∷ Plain (Movzx r r) ∷ []) in
    let first : size (operation p places alu.Cmp a b) ≤ 11 = one _ in
    omega (arith, first, last, both)
few_op p (instr.DivMod q r a d) places =
    let all = size-cons (Plain Cdq) (Plain (Idiv (rm_of (at p places d 1))) ∷ []) in
    omega (arith, all, one (Idiv (rm_of (at p places d 1))))
few_op p (instr.Check i n) places =
    omega (arith, two (bound (at p places i 0) n) (Branch cond.Ae (Stub Index)) 6 refl)
few_op p (instr.CheckPos d) places =
    omega (arith, two (bound (at p places d 0) (pos 0)) (Branch cond.Le (Stub Divide)) 6 refl)
few_op p (instr.Load v a) places =
    single (MovRRm (reg_of (at p places v (address_count a))) (rm.Mem (address_of p a places)))
few_op p (instr.Store a s) places = single _
few_op p (instr.Addr v a) places =
    single (Lea (reg_of (at p places v (address_count a))) (address_of p a places))
few_op p (instr.Push s) places = single _
few_op p (instr.Call q) places = let all = size-cons (item.Call q) [] in omega (arith, all)
few_op p (instr.Read v) places = omega arith
few_op p (instr.Write s) places = omega arith
few_op p instr.Line places = omega arith
few_op p instr.Clear places = omega arith

few_move : (p : LProc) (m : Move) → size (Plain (emit_move p m) ∷ []) ≤ 6
few_move p (move.Copy to from) = omega arith
few_move p (move.Swap a b) = omega arith
few_move p (move.Load to v) =
    let all = size-cons (Plain (emit_move p (move.Load to v))) [] in
    omega (arith, all, few_displacement (width_of p) (memory_at p v.0))
few_move p (move.Store v from) =
    let all = size-cons (Plain (emit_move p (move.Store v from))) [] in
    omega (arith, all, few_displacement (width_of p) (memory_at p v.0))
few_move p (move.Set to n) = omega arith

-- ---- blocks

abbrev ops : List LInstr → ℕ
ops code = length (filter_map op_of code)

-- with n moves directly before it
few_code : (p : LProc) (n : ℕ) (code : List LInstr) → FewMoves n code →
    6 * n + size (flat_map (emit p) code) ≤ 97 * ops code + 72
few_code p n [] few = omega (arith, few)
few_code p n (placed.Move m ∷ rest) few =
    let more = few_code p (suc n) rest few in
    let both = size-append (emit p (placed.Move m)) (flat_map (emit p) rest) in
    omega (arith, more, both, few_move p m)
few_code p n (placed.Op i places ∷ rest) few =
    let more = few_code p 0 rest few.1 in
    let both = size-append (emit p (placed.Op i places)) (flat_map (emit p) rest) in
    omega (arith, more, both, few.0, few_op p i places.items)

few_jump : (next : ℕ) (b : BlockId) → size (jump_to next b) ≤ 5
few_jump next b = cases (nat_eq b.0 next)
  where
    cases : (e : Bool) → size (if e then [] else Jump (Block b) ∷ []) ≤ 5
    cases true = omega arith
    cases false = omega arith

few_return : (n : ℕ) → size (Plain (return n) ∷ []) ≤ 3
few_return zero = omega arith
few_return (suc n) = omega arith

few_end : (p : LProc) (next : ℕ) (e : End) → size (emit_end p next e) ≤ 11
few_end p next (end.Jump b) = omega (arith, few_jump next b)
few_end p next (end.Branch c first other) =
    let all = size-cons (Branch c (Block first)) (jump_to next other) in
    omega (arith, all, few_jump next other)
few_end p next end.Return =
    let last : size (leave p) ≡ 7 + size (Plain (return p.args) ∷ []) = search_size p in
    omega (arith, last, few_return p.args)
  where
    search_size : (p : LProc) → size (leave p) ≡ 7 + size (Plain (return p.args) ∷ [])
    search_size p =
        let front : List Item = take 5 (leave p) in
        size-append front (Plain (return p.args) ∷ [])

few_block : (p : LProc) (k : ℕ) (b : LBlock) → FewMoves 0 b.code → size (emit_block p k b) ≤
    97 * ops b.code + 83
few_block p k b few =
    let both = size-append (flat_map (emit p) b.code) (emit_end p (k + 1) b.end) in
    omega (arith, both, few_code p 0 b.code few, few_end p (k + 1) b.end)

abbrev bare_ops : Bare → ℕ
bare_ops b = length b.code

few_blocks : (p : LProc) (k : ℕ) (bs : List LBlock) →
    ((j : ℕ) (b : LBlock) → slice_get bs j ≡ Some b → FewMoves 0 b.code) →
    size (emit_blocks p k bs) ≤ 97 * sum_by bare_ops (map bare_block bs) + 83 * length bs
few_blocks p k [] few = omega arith
few_blocks p k (b ∷ bs) few =
    let first = few_block p k b (few 0 b refl) in
    let more = few_blocks p (k + 1) bs (λ j c e. few (suc j) c e) in
    let both = size-append (emit_block p k b) (emit_blocks p (k + 1) bs) in
    let sum = sum_by-cons bare_ops (bare_block b) (map bare_block bs) in
    omega (arith, first, more, both, sum)

-- ---- procedures

few_lowered : (n : ℕ) → size (lowered n) ≤ 6
few_lowered zero = omega arith
few_lowered (suc n) = omega arith

few_prologue : (p : LProc) → size (prologue p) ≤ 24
few_prologue p =
    let front : List Item = take 7 (prologue p) in
    let both = size-append front (lowered (locals p)) in
    omega (arith, both, few_lowered (locals p))

few_proc : (p : LProc) → IsPlaced p → size (emit_proc p) ≤ 97 * instruction_count p + 107 * length
    p.blocks
few_proc p is =
    let some : 0 < length (bare p) = is.block_rules.last_return.there in
    let count = length-map p.blocks bare_block in
    let both = size-append (prologue p) (emit_blocks p 0 p.blocks) in
    omega (arith, both, some, count, few_prologue p, few_blocks p 0 p.blocks is.few_moves)

few_procs : (procs : List LProc) → ((k : ℕ) (p : LProc) → slice_get procs k ≡ Some p → IsPlaced p) →
    sum_by (λ p. size (emit_proc p)) procs ≤ 97 * sum_by instruction_count procs + 107 * sum_by
    (λ (p : LProc). length p.blocks) procs
few_procs [] are = omega arith
few_procs (p ∷ ps) are =
    let first = few_proc p (are 0 p refl) in
    let more = few_procs ps (λ k q e. are (suc k) q e) in
    let size_sum = sum_by-cons (λ (p : LProc). size (emit_proc p)) p ps in
    let op_sum = sum_by-cons instruction_count p ps in
    let block_sum = sum_by-cons (λ (p : LProc). length p.blocks) p ps in
    omega (arith, first, more, size_sum, op_sum, block_sum)

-- as many instructions and blocks as a module has are code that fits
pub few_bytes : (procs : List LProc) → AreFew procs →
    ((k : ℕ) (p : LProc) → slice_get procs k ≡ Some p → IsPlaced p) → code_size procs ≤
    max_code_bytes
few_bytes procs few are = omega (arith, few.instructions, few.blocks, few_procs procs are)
