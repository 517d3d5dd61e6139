-- An instruction that is read is spelled so by the table.
use Rattle.std.proofs.Common.{◌≡◌, ℕ, ◌+◌, ◌-◌, ◌*◌, ◌/◌, ◌%◌, ◌≤◌, ◌<◌, Bool, true, false, List}
use Rattle.std.proofs.Common.{[], ◌∷◌, ◌++◌, Some, None, refl, sym, ap, ◌∙◌, subst, arith}
use Rattle.std.proofs.Common.{append_assoc, nat_lt, nat_le}
use Rattle.std.specs.Prelude.{ℤ, ◌==◌, ◌&&◌, ◌||◌, if◌then◌else◌}
use Rattle.std.proofs.lemmas.Bool.Decides.{nat_tests}
use Rattle.std.specs.Int.{w8, w16, w32, to_le_bytes}
use Rattle.std.specs.Int.RustNames.{FitsSigned}
use Rattle.pra_base.specs.declared.ids.Cond.{Cond}
use Rattle.pra_base.specs.declared.ids.ShiftOp.{ShiftOp}
use Rattle.ia_code.specs.declared.ins.Reg.{Reg}
use Rattle.ia_code.specs.declared.ins.Reg.TheVariants.{Esp}
use Rattle.ia_code.specs.declared.ins.MemAddr.{MemAddr}
use Rattle.ia_code.specs.declared.ins.Rm.{Rm}
use Rattle.ia_code.specs.declared.ins.Rm.TheVariants as rm
use Rattle.ia_code.specs.declared.ins.Ins.{Ins}
use Rattle.ia_code.specs.declared.ins.Ins.TheVariants.{MovRmR, MovRRm, MovRI, MovRmI, AluRmR}
use Rattle.ia_code.specs.declared.ins.Ins.TheVariants.{AluRRm, AluRmI, AluRmB, ImulRRm, ImulI}
use Rattle.ia_code.specs.declared.ins.Ins.TheVariants.{ImulB, Neg, Shift, Idiv, Cdq, Lea, PushR}
use Rattle.ia_code.specs.declared.ins.Ins.TheVariants.{PopR}
use Rattle.ia_code.specs.declared.ins.Ins.TheVariants.{PushM, PushI, Call, Ret, RetI, Jmp, Jcc, Set}
use Rattle.ia_code.specs.declared.ins.Ins.TheVariants.{Movzx, Xchg, Test, Int}
use Rattle.ia_code.specs.Services.{is_service}
use Rattle.ia_code.specs.DecodeTable.{reg_number, op_number, cond_number, imm8, imm32, operand}
use Rattle.ia_code.specs.DecodeTable.{bytes_of, is_register, has_low_byte, IsAddress, IsOperand}
use Rattle.ia_code.specs.DecodeTable.{IsSound, shift_number}
use Rattle.ia_code.specs.Reading.{reg_of, cond_of, op_of, byte_at, short_at, half_at, word_at}
use Rattle.ia_code.specs.Reading.{operand_at, memory_of, register_of, memory_operand_at}
use Rattle.ia_code.specs.Reading.{register_operand_at, alu_word_at, alu_short_at, mov_word_at}
use Rattle.ia_code.specs.Reading.{unary_at, shift_of, shift_at, set_at, movzx_at, extended_at}
use Rattle.ia_code.specs.Reading.{alu_at, stack_at}
use Rattle.ia_code.specs.Reading.{move_at, constant_at, jump_at, opcode_at, instruction_at}
use Rattle.pra_list.specs.Options.{◌>>=◌}
use Rattle.ia_code.specs.DecodeTable.{IsBytes}
use Rattle.ia_code.proofs.FieldNumbers.{reg_back, op_back, shift_back, cond_back}
use Rattle.ia_code.proofs.OperandsReadAreSpelled.{Takes, byte_takes, half_takes, word_takes}
use Rattle.ia_code.proofs.OperandsReadAreSpelled.{short_takes, is_same, both, IsRead, operand_takes}
use Rattle.pra_list.proofs.Options.{some_same, bind_some, none_some}
use Rattle.pra_list.proofs.Choices.{by_test}

-- what is read of an instruction
IsIns : List ℕ → Ins × List ℕ → Type 0
IsIns bytes x = Takes bytes (bytes_of x.0) x.1 × IsSound x.0

-- The parts of a row one after the other.

nothing : (bytes : List ℕ) → IsBytes bytes → Takes bytes [] bytes
nothing bytes bb = record { all = refl; bytes_left = bb }

two : {bytes a middle b rest : List ℕ} → Takes bytes a middle → Takes middle b rest →
    Takes bytes (a ++ b) rest
two {bytes = bytes} {a = a} {middle = middle} {b = b} {rest = rest} s t =
    record {
      all = s.all ∙ ap (λ l. a ++ l) t.all ∙ sym (append_assoc a b rest);
      bytes_left =
          t.bytes_left;
    }

-- behind an opcode stands what the table has there
row : (opcode bytes text rest : List ℕ) (i : Ins) → Takes bytes text rest → bytes_of i ≡ opcode
    ++ text → IsSound i → IsIns (opcode ++ bytes) (i, rest)
unfolding IsIns
row opcode bytes text rest i t spell sound = (
  record {
    all = ap (λ l. opcode ++ l) t.all ∙ sym (append_assoc opcode text rest)
        ∙ ap (λ l. l ++ rest) (sym spell);
    bytes_left = t.bytes_left;
  },
  sound,
)

memory_takes : (reg : ℕ) (r : Rm) (rest bytes : List ℕ) → IsRead bytes (reg, r, rest) →
    (x : ℕ × MemAddr × List ℕ) → memory_of reg r rest ≡ Some x → IsRead bytes (x.0, rm.Mem x.1, x.2)
memory_takes reg (rm.Reg r) rest bytes is x e = absurd (none_some e)
memory_takes reg (rm.Mem a) rest bytes is x e = subst (λ y. IsRead bytes (y.0, rm.Mem y.1, y.2))
    (some_same (reg, a, rest) x e) is

register_takes : (reg : ℕ) (r : Rm) (rest bytes : List ℕ) → IsRead bytes (reg, r, rest) →
    (x : ℕ × Reg × List ℕ) → register_of reg r rest ≡ Some x → IsRead bytes (x.0, rm.Reg x.1, x.2)
register_takes reg (rm.Reg r) rest bytes is x e = subst (λ y. IsRead bytes (y.0, rm.Reg y.1, y.2))
    (some_same (reg, r, rest) x e) is
register_takes reg (rm.Mem a) rest bytes is x e = absurd (none_some e)

module _ (bytes : List ℕ) (bb : IsBytes bytes) where
  memory_operand_takes : (x : ℕ × MemAddr × List ℕ) → memory_operand_at bytes ≡ Some x →
      IsRead bytes (x.0, rm.Mem x.1, x.2)
  unfolding memory_operand_at
  memory_operand_takes x e =
      let o = bind_some (operand_at bytes) _ x e in
      memory_takes o.0.0 o.0.1 o.0.2 bytes (operand_takes bytes bb o.0 o.1) x o.2

  register_operand_takes : (x : ℕ × Reg × List ℕ) → register_operand_at bytes ≡ Some x →
      IsRead bytes (x.0, rm.Reg x.1, x.2)
  unfolding register_operand_at
  register_operand_takes x e =
      let o = bind_some (operand_at bytes) _ x e in
      register_takes o.0.0 o.0.1 o.0.2 bytes (operand_takes bytes bb o.0 o.1) x o.2

-- Rows of an opcode and an operand, a register, a place in memory or a number.
module _ (opcode bytes : List ℕ) (bb : IsBytes bytes) (x : Ins × List ℕ) where
  operand_row : (make : ℕ → Rm → Ins) →
      ((reg : ℕ) (r : Rm) → reg < 8 → bytes_of (make reg r) ≡ opcode ++ operand reg r) →
      ((reg : ℕ) (r : Rm) → IsOperand r → IsSound (make reg r)) →
      (operand_at bytes >>= λ o. let y : Ins × List ℕ = (make o.0 o.1, o.2) in Some y) ≡ Some x →
      IsIns (opcode ++ bytes) x
  unfolding IsRead
  operand_row make spell sound e =
      let o = bind_some (operand_at bytes) _ x e in
      let r = operand_takes bytes bb o.0 o.1 in
      subst (IsIns (opcode ++ bytes)) (some_same (make o.0.0 o.0.1, o.0.2) x o.2)
      (row opcode bytes (operand o.0.0 o.0.1) o.0.2 (make o.0.0 o.0.1) r.0 (spell o.0.0 o.0.1 r.2)
      (sound o.0.0 o.0.1 r.1))

  register_row : (make : ℕ → Reg → Ins) →
      ((reg : ℕ) (r : Reg) → reg < 8 → bytes_of (make reg r) ≡ opcode ++ operand reg (rm.Reg r)) →
      ((reg : ℕ) (r : Reg) → IsSound (make reg r)) →
      (register_operand_at bytes >>= λ o. let y : Ins × List ℕ = (make o.0 o.1, o.2) in Some y) ≡
      Some x → IsIns (opcode ++ bytes) x
  unfolding IsRead
  register_row make spell sound e =
      let o = bind_some (register_operand_at bytes) _ x e in
      let r = register_operand_takes bytes bb o.0 o.1 in
      subst (IsIns (opcode ++ bytes)) (some_same (make o.0.0 o.0.1, o.0.2) x o.2)
      (row opcode bytes (operand o.0.0 (rm.Reg o.0.1)) o.0.2 (make o.0.0 o.0.1) r.0
      (spell o.0.0 o.0.1 r.2) (sound o.0.0 o.0.1))

  memory_row : (make : ℕ → MemAddr → Ins) →
      ((reg : ℕ) (a : MemAddr) → reg < 8 → bytes_of (make reg a) ≡ opcode ++ operand reg (rm.Mem a))
      → ((reg : ℕ) (a : MemAddr) → IsAddress a → IsSound (make reg a)) →
      (memory_operand_at bytes >>= λ o. let y : Ins × List ℕ = (make o.0 o.1, o.2) in Some y) ≡
      Some x → IsIns (opcode ++ bytes) x
  unfolding IsRead
  memory_row make spell sound e =
      let o = bind_some (memory_operand_at bytes) _ x e in
      let r = memory_operand_takes bytes bb o.0 o.1 in
      subst (IsIns (opcode ++ bytes)) (some_same (make o.0.0 o.0.1, o.0.2) x o.2)
      (row opcode bytes (operand o.0.0 (rm.Mem o.0.1)) o.0.2 (make o.0.0 o.0.1) r.0
      (spell o.0.0 o.0.1 r.2) (sound o.0.0 o.0.1 r.1))

  word_row : (make : ℤ → Ins) → ((n : ℤ) → bytes_of (make n) ≡ opcode ++ imm32 n) →
      ((n : ℤ) → FitsSigned w32 n → IsSound (make n)) →
      (word_at bytes >>= λ n. let y : Ins × List ℕ = (make n.0, n.1) in Some y) ≡ Some x →
      IsIns (opcode ++ bytes) x
  word_row make spell sound e =
      let n = bind_some (word_at bytes) _ x e in
      let w = word_takes bytes bb n.0 n.1 in
      subst (IsIns (opcode ++ bytes)) (some_same (make n.0.0, n.0.1) x n.2)
      (row opcode bytes (imm32 n.0.0) n.0.1 (make n.0.0) w.0 (spell n.0.0) (sound n.0.0 w.1))

  bare_row : (i : Ins) → bytes_of i ≡ opcode ++ [] → IsSound i → Some (i, bytes) ≡ Some x →
      IsIns (opcode ++ bytes) x
  bare_row i spell sound e = subst (IsIns (opcode ++ bytes)) (some_same (i, bytes) x e)
      (row opcode bytes [] bytes i (nothing bytes bb) spell sound)

-- Rows of an opcode, an operand and a number.
module _ (opcode bytes : List ℕ) (reg : ℕ) (r : Rm) (after : List ℕ)
    (is : IsRead bytes (reg, r, after)) (i : Ins) where
  operand_word_row : (n : ℤ × List ℕ) → word_at after ≡ Some n → bytes_of i ≡ opcode
      ++ (operand reg r ++ imm32 n.0) → (FitsSigned w32 n.0 → IsSound i) →
      IsIns (opcode ++ bytes) (i, n.1)
  unfolding IsRead
  operand_word_row n e spell sound =
      let t = word_takes after is.0.bytes_left n e in
      row opcode bytes (operand reg r ++ imm32 n.0) n.1 i (two is.0 t.0) spell (sound t.1)

  operand_short_row : (n : ℤ × List ℕ) → short_at after ≡ Some n → bytes_of i ≡ opcode
      ++ (operand reg r ++ imm8 n.0) → (FitsSigned w8 n.0 → IsSound i) →
      IsIns (opcode ++ bytes) (i, n.1)
  unfolding IsRead
  operand_short_row n e spell sound =
      let t = short_takes after is.0.bytes_left n e in
      row opcode bytes (operand reg r ++ imm8 n.0) n.1 i (two is.0 t.0) spell (sound t.1)

sound_operand : (bytes : List ℕ) (o : ℕ × Rm × List ℕ) → IsRead bytes o → IsOperand o.1
unfolding IsRead
sound_operand bytes o is = is.1

small_reg : (bytes : List ℕ) (o : ℕ × Rm × List ℕ) → IsRead bytes o → o.0 < 8
unfolding IsRead
small_reg bytes o is = is.2

-- The opcodes whose reg field is part of the opcode.

alu_word_takes : (bytes : List ℕ) → IsBytes bytes → (x : Ins × List ℕ) → alu_word_at bytes ≡
    Some x → IsIns (0x81 ∷ bytes) x
unfolding alu_word_at
alu_word_takes bytes bb x e =
    let o = bind_some (operand_at bytes) _ x e in
    let op = bind_some (op_of o.0.0) _ x o.2 in
    let n = bind_some (word_at o.0.2) _ x op.2 in
    let is = operand_takes bytes bb o.0 o.1 in
    let i : Ins = AluRmI op.0 o.0.1 n.0.0 in
    subst (IsIns (0x81 ∷ bytes)) (some_same (AluRmI op.0 o.0.1 n.0.0, n.0.1) x n.2)
    (operand_word_row (0x81 ∷ []) bytes o.0.0 o.0.1 o.0.2 is i n.0 n.1
    (ap (λ k. 0x81 ∷ (operand k o.0.1 ++ imm32 n.0.0)) (op_back o.0.0 op.0 op.1))
    (λ f. (sound_operand bytes o.0 is, f)))

alu_short_takes : (bytes : List ℕ) → IsBytes bytes → (x : Ins × List ℕ) → alu_short_at bytes ≡
    Some x → IsIns (0x83 ∷ bytes) x
unfolding alu_short_at
alu_short_takes bytes bb x e =
    let o = bind_some (operand_at bytes) _ x e in
    let op = bind_some (op_of o.0.0) _ x o.2 in
    let n = bind_some (short_at o.0.2) _ x op.2 in
    let is = operand_takes bytes bb o.0 o.1 in
    let i : Ins = AluRmB op.0 o.0.1 n.0.0 in
    subst (IsIns (0x83 ∷ bytes)) (some_same (AluRmB op.0 o.0.1 n.0.0, n.0.1) x n.2)
    (operand_short_row (0x83 ∷ []) bytes o.0.0 o.0.1 o.0.2 is i n.0 n.1
    (ap (λ k. 0x83 ∷ (operand k o.0.1 ++ imm8 n.0.0)) (op_back o.0.0 op.0 op.1))
    (λ f. (sound_operand bytes o.0 is, f)))

mov_word_takes : (bytes : List ℕ) → IsBytes bytes → (x : Ins × List ℕ) → mov_word_at bytes ≡
    Some x → IsIns (0xc7 ∷ bytes) x
unfolding mov_word_at
mov_word_takes bytes bb x e =
    let o = bind_some (operand_at bytes) _ x e in
    let n = bind_some (word_at o.0.2) _ x o.2 in
    let is = operand_takes bytes bb o.0 o.1 in
    let i : Ins = MovRmI o.0.1 n.0.0 in
    by_test (o.0.0 == 0) _ _ (Some x)
    (λ h f. subst (IsIns (0xc7 ∷ bytes)) (some_same (MovRmI o.0.1 n.0.0, n.0.1) x f)
    (operand_word_row (0xc7 ∷ []) bytes o.0.0 o.0.1 o.0.2 is i n.0 n.1
    (ap (λ k. 0xc7 ∷ (operand k o.0.1 ++ imm32 n.0.0)) (sym (is_same o.0.0 0 h)))
    (λ f. (sound_operand bytes o.0 is, f))))
    (λ h f. absurd (none_some f))
    n.2

unary_takes : (bytes : List ℕ) → IsBytes bytes → (x : Ins × List ℕ) → unary_at bytes ≡ Some x →
    IsIns (0xf7 ∷ bytes) x
unfolding unary_at IsRead
unary_takes bytes bb x e =
    let o = bind_some (operand_at bytes) _ x e in
    let r = operand_takes bytes bb o.0 o.1 in
    by_test (o.0.0 == 3) _ _ (Some x)
    (λ h f. subst (IsIns (0xf7 ∷ bytes)) (some_same (Neg o.0.1, o.0.2) x f)
    (row (0xf7 ∷ []) bytes (operand o.0.0 o.0.1) o.0.2 (Neg o.0.1) r.0
    (ap (λ k. 0xf7 ∷ operand k o.0.1) (sym (is_same o.0.0 3 h))) r.1))
    (λ h f. by_test (o.0.0 == 7) _ _ (Some x)
    (λ h f. subst (IsIns (0xf7 ∷ bytes)) (some_same (Idiv o.0.1, o.0.2) x f)
    (row (0xf7 ∷ []) bytes (operand o.0.0 o.0.1) o.0.2 (Idiv o.0.1) r.0
    (ap (λ k. 0xf7 ∷ operand k o.0.1) (sym (is_same o.0.0 7 h))) r.1))
    (λ h f. absurd (none_some f)) f)
    o.2

shift_takes : (bytes : List ℕ) → IsBytes bytes → (x : Ins × List ℕ) → shift_at bytes ≡ Some x →
    IsIns (0xc1 ∷ bytes) x
unfolding shift_at IsRead
shift_takes bytes bb x e =
    let o = bind_some (operand_at bytes) _ x e in
    let op = bind_some (shift_of o.0.0) _ x o.2 in
    let n = bind_some (byte_at o.0.2) _ x op.2 in
    let r = operand_takes bytes bb o.0 o.1 in
    let t = byte_takes o.0.2 r.0.bytes_left n.0 n.1 in
    let i : Ins = Shift op.0 o.0.1 n.0.0 in
    subst (IsIns (0xc1 ∷ bytes)) (some_same (Shift op.0 o.0.1 n.0.0, n.0.1) x n.2)
    (row (0xc1 ∷ []) bytes (operand o.0.0 o.0.1 ++ n.0.0 ∷ []) n.0.1 i (two r.0 t.0)
    (ap (λ k. 0xc1 ∷ (operand k o.0.1 ++ n.0.0 ∷ [])) (shift_back o.0.0 op.0 op.1)) (r.1, t.1))

push_memory_takes : (bytes : List ℕ) → IsBytes bytes → (x : Ins × List ℕ) →
    (memory_operand_at bytes >>= λ o. if o.0 == 6 then (let y : Ins × List ℕ = (PushM o.1, o.2) in
    Some y) else None) ≡ Some x → IsIns (0xff ∷ bytes) x
unfolding IsRead
push_memory_takes bytes bb x e =
    let o = bind_some (memory_operand_at bytes) _ x e in
    let r = memory_operand_takes bytes bb o.0 o.1 in
    by_test (o.0.0 == 6) _ _ (Some x)
    (λ h f. subst (IsIns (0xff ∷ bytes)) (some_same (PushM o.0.1, o.0.2) x f)
    (row (0xff ∷ []) bytes (operand o.0.0 (rm.Mem o.0.1)) o.0.2 (PushM o.0.1) r.0
    (ap (λ k. 0xff ∷ operand k (rm.Mem o.0.1)) (sym (is_same o.0.0 6 h))) r.1))
    (λ h f. absurd (none_some f))
    o.2

-- Numbers in opcodes.

within : (lo hi op : ℕ) → nat_le lo op && nat_le op hi ≡ true → (lo ≤ op) × (op ≤ hi)
within lo hi op h = let p = both (nat_le lo op) (nat_le op hi) h in
    (grind (arith, nat_tests), grind (arith, nat_tests))

neither : (x y : Bool) → (x || y) ≡ false → (x ≡ false) × (y ≡ false)
neither true y h = cc
neither false y h = (refl, h)

module _ (lo op : ℕ) (l : lo ≤ op) (h : op ≤ lo + 7) where
  numbered : lo + reg_number (reg_of (op - lo)) ≡ op
  numbered = omega (arith, reg_back (op - lo) (omega arith))

  not_esp : (op == lo + 4) ≡ false → is_register (reg_of (op - lo)) Esp ≡ false
  not_esp e = rw (reg_back (op - lo) (omega arith)) (grind (arith, nat_tests))

condition_number : (lo op : ℕ) (c : Cond) → lo ≤ op → cond_of (op - lo) ≡ Some c →
    lo + cond_number c ≡ op
condition_number lo op c l e = omega (arith, cond_back (op - lo) c e)

-- The families of opcodes.

set_takes : (c : Cond) (op : ℕ) → 0x90 + cond_number c ≡ op → (bytes : List ℕ) → IsBytes bytes →
    (x : Ins × List ℕ) → set_at c bytes ≡ Some x → IsIns (0x0f ∷ op ∷ bytes) x
unfolding set_at IsRead
set_takes c op n bytes bb x e =
    let o = bind_some (register_operand_at bytes) _ x e in
    let r = register_operand_takes bytes bb o.0 o.1 in
    by_test ((o.0.0 == 0) && has_low_byte o.0.1) _ _ (Some x)
    (λ h f.
    let p = both (o.0.0 == 0) (has_low_byte o.0.1) h in
    let spell : bytes_of (Set c o.0.1) ≡ 0x0f ∷ op ∷ operand o.0.0 (rm.Reg o.0.1) =
    ap (λ k. 0x0f ∷ k ∷ operand 0 (rm.Reg o.0.1)) n ∙ ap (λ k. 0x0f ∷ op ∷ operand k (rm.Reg o.0.1))
    (sym (is_same o.0.0 0 p.0)) in
    subst (IsIns (0x0f ∷ op ∷ bytes)) (some_same (Set c o.0.1, o.0.2) x f)
    (row (0x0f ∷ op ∷ []) bytes (operand o.0.0 (rm.Reg o.0.1)) o.0.2 (Set c o.0.1) r.0 spell p.1))
    (λ h f. absurd (none_some f))
    o.2

movzx_takes : (bytes : List ℕ) → IsBytes bytes → (x : Ins × List ℕ) → movzx_at bytes ≡ Some x →
    IsIns (0x0f ∷ 0xb6 ∷ bytes) x
unfolding movzx_at IsRead
movzx_takes bytes bb x e =
    let o = bind_some (register_operand_at bytes) _ x e in
    let r = register_operand_takes bytes bb o.0 o.1 in
    by_test (has_low_byte o.0.1) _ _ (Some x)
    (λ h f. subst (IsIns (0x0f ∷ 0xb6 ∷ bytes)) (some_same (Movzx (reg_of o.0.0) o.0.1, o.0.2) x f)
    (row (0x0f ∷ 0xb6 ∷ []) bytes (operand o.0.0 (rm.Reg o.0.1)) o.0.2 (Movzx (reg_of o.0.0) o.0.1)
    r.0
    (ap (λ k. 0x0f ∷ 0xb6 ∷ operand k (rm.Reg o.0.1)) (reg_back o.0.0 r.2)) h))
    (λ h f. absurd (none_some f))
    o.2

jcc_takes : (op : ℕ) → nat_le 0x80 op && nat_le op 0x8f ≡ true → (bytes : List ℕ) → IsBytes bytes →
    (x : Ins × List ℕ) →
    (cond_of (op - 0x80) >>= λ c. word_at bytes >>= λ d. let y : Ins × List ℕ = (Jcc c d.0, d.1) in
    Some y) ≡ Some x → IsIns (0x0f ∷ op ∷ bytes) x
jcc_takes op h bytes bb x e =
    let c = bind_some (cond_of (op - 0x80)) _ x e in
    word_row (0x0f ∷ op ∷ []) bytes bb x (Jcc c.0)
    (λ n. ap (λ k. 0x0f ∷ k ∷ imm32 n)
    (condition_number 0x80 op c.0 (within 0x80 0x8f op h).0 c.1)) (λ n f. f) c.2

at_op : (n op : ℕ) (bytes : List ℕ) (x : Ins × List ℕ) → (op == n) ≡ true → IsIns (n ∷ bytes) x →
    IsIns (op ∷ bytes) x
at_op n op bytes x h i = subst (λ k. IsIns (k ∷ bytes) x) (sym (is_same op n h)) i

at_second : (n op : ℕ) (bytes : List ℕ) (x : Ins × List ℕ) → (op == n) ≡ true →
    IsIns (0x0f ∷ n ∷ bytes) x → IsIns (0x0f ∷ op ∷ bytes) x
at_second n op bytes x h i = subst (λ k. IsIns (0x0f ∷ k ∷ bytes) x) (sym (is_same op n h)) i

module _ (op : ℕ) (bytes : List ℕ) (bb : IsBytes bytes) (x : Ins × List ℕ) where
  extended_takes : extended_at op bytes ≡ Some x → IsIns (0x0f ∷ op ∷ bytes) x
  unfolding extended_at
  extended_takes e =
      by_test (op == 0xaf) _ _ (Some x) (λ h f. at_second 0xaf op bytes x h
      (operand_row (0x0f ∷ 0xaf ∷ []) bytes bb x (λ reg r. ImulRRm (reg_of reg) r)
      (λ reg r h. ap (λ k. 0x0f ∷ 0xaf ∷ operand k r) (reg_back reg h)) (λ reg r is. is) f))
      (λ _ e.
      by_test (op == 0xb6) _ _ (Some x)
      (λ h f. at_second 0xb6 op bytes x h (movzx_takes bytes bb x f)) (λ _ e.
      by_test (nat_le 0x80 op && nat_le op 0x8f) _ _ (Some x) (λ h f. jcc_takes op h bytes bb x f)
      (λ _ e.
      by_test (nat_le 0x90 op && nat_le op 0x9f) _ _ (Some x)
      (λ h f.
      let c = bind_some (cond_of (op - 0x90)) _ x f in
      set_takes c.0 op (condition_number 0x90 op c.0 (within 0x90 0x9f op h).0 c.1) bytes bb x c.2)
      (λ _ f. absurd (none_some f))
      e) e) e) e

  alu_left_takes : (op % 8 == 1) ≡ true →
      (operand_at bytes >>= λ o. op_of (op / 8) >>= λ k. let y : Ins × List ℕ =
      (AluRmR k o.1 (reg_of o.0), o.2) in Some y) ≡ Some x → IsIns (op ∷ bytes) x
  unfolding IsRead
  alu_left_takes h e =
      let o = bind_some (operand_at bytes) _ x e in
      let k = bind_some (op_of (op / 8)) _ x o.2 in
      let r = operand_takes bytes bb o.0 o.1 in
      let n : 8 * op_number k.0 + 0x01 ≡ op =
      omega (arith, op_back (op / 8) k.0 k.1, is_same (op % 8) 1 h) in
      let spell : bytes_of (AluRmR k.0 o.0.1 (reg_of o.0.0)) ≡ op ∷ operand o.0.0 o.0.1 =
      ap (λ n. n ∷ operand (reg_number (reg_of o.0.0)) o.0.1) n ∙ ap (λ k. op ∷ operand k o.0.1)
      (reg_back o.0.0 r.2) in
      subst (IsIns (op ∷ bytes)) (some_same (AluRmR k.0 o.0.1 (reg_of o.0.0), o.0.2) x k.2)
      (row (op ∷ []) bytes (operand o.0.0 o.0.1) o.0.2 (AluRmR k.0 o.0.1 (reg_of o.0.0)) r.0 spell
      r.1)

  alu_right_takes : (op % 8 == 3) ≡ true →
      (operand_at bytes >>= λ o. op_of (op / 8) >>= λ k. let y : Ins × List ℕ =
      (AluRRm k (reg_of o.0) o.1, o.2) in Some y) ≡ Some x → IsIns (op ∷ bytes) x
  unfolding IsRead
  alu_right_takes h e =
      let o = bind_some (operand_at bytes) _ x e in
      let k = bind_some (op_of (op / 8)) _ x o.2 in
      let r = operand_takes bytes bb o.0 o.1 in
      let n : 8 * op_number k.0 + 0x03 ≡ op =
      omega (arith, op_back (op / 8) k.0 k.1, is_same (op % 8) 3 h) in
      let spell : bytes_of (AluRRm k.0 (reg_of o.0.0) o.0.1) ≡ op ∷ operand o.0.0 o.0.1 =
      ap (λ n. n ∷ operand (reg_number (reg_of o.0.0)) o.0.1) n ∙ ap (λ k. op ∷ operand k o.0.1)
      (reg_back o.0.0 r.2) in
      subst (IsIns (op ∷ bytes)) (some_same (AluRRm k.0 (reg_of o.0.0) o.0.1, o.0.2) x k.2)
      (row (op ∷ []) bytes (operand o.0.0 o.0.1) o.0.2 (AluRRm k.0 (reg_of o.0.0) o.0.1) r.0 spell
      r.1)

  imul_word_takes : (operand_at bytes >>= λ o. word_at o.2 >>= λ n. let y : Ins × List ℕ =
      (ImulI (reg_of o.0) o.1 n.0, n.1) in Some y) ≡ Some x → IsIns (0x69 ∷ bytes) x
  imul_word_takes e =
      let o = bind_some (operand_at bytes) _ x e in
      let n = bind_some (word_at o.0.2) _ x o.2 in
      let is = operand_takes bytes bb o.0 o.1 in
      subst (IsIns (0x69 ∷ bytes)) (some_same (ImulI (reg_of o.0.0) o.0.1 n.0.0, n.0.1) x n.2)
      (operand_word_row (0x69 ∷ []) bytes o.0.0 o.0.1 o.0.2 is (ImulI (reg_of o.0.0) o.0.1 n.0.0)
      n.0 n.1
      (ap (λ k. 0x69 ∷ (operand k o.0.1 ++ imm32 n.0.0)) (reg_back o.0.0 (small_reg bytes o.0 is)))
      (λ f. (sound_operand bytes o.0 is, f)))

  imul_short_takes : (operand_at bytes >>= λ o. short_at o.2 >>= λ n. let y : Ins × List ℕ =
      (ImulB (reg_of o.0) o.1 n.0, n.1) in Some y) ≡ Some x → IsIns (0x6b ∷ bytes) x
  imul_short_takes e =
      let o = bind_some (operand_at bytes) _ x e in
      let n = bind_some (short_at o.0.2) _ x o.2 in
      let is = operand_takes bytes bb o.0 o.1 in
      subst (IsIns (0x6b ∷ bytes)) (some_same (ImulB (reg_of o.0.0) o.0.1 n.0.0, n.0.1) x n.2)
      (operand_short_row (0x6b ∷ []) bytes o.0.0 o.0.1 o.0.2 is (ImulB (reg_of o.0.0) o.0.1 n.0.0)
      n.0 n.1
      (ap (λ k. 0x6b ∷ (operand k o.0.1 ++ imm8 n.0.0)) (reg_back o.0.0 (small_reg bytes o.0 is)))
      (λ f. (sound_operand bytes o.0 is, f)))

  stack_takes : stack_at op bytes ≡ Some x → IsIns (op ∷ bytes) x
  unfolding stack_at
  stack_takes e =
      by_test (op == 0x68) _ _ (Some x)
      (λ h f. at_op 0x68 op bytes x h
      (word_row (0x68 ∷ []) bytes bb x PushI (λ n. refl) (λ n f. f) f)) (λ _ e.
      by_test (op == 0x69) _ _ (Some x) (λ h f. at_op 0x69 op bytes x h (imul_word_takes f)) (λ _ e.
      by_test (op == 0x6b) _ _ (Some x) (λ h f. at_op 0x6b op bytes x h (imul_short_takes f))
      (λ _ e.
      by_test ((op == 0x54) || (op == 0x5c)) _ _ (Some x) (λ _ f. absurd (none_some f)) (λ n e.
      let esp = neither (op == 0x54) (op == 0x5c) n in
      by_test (nat_le 0x50 op && nat_le op 0x57) _ _ (Some x)
      (λ h f.
      let p = within 0x50 0x57 op h in
      bare_row (op ∷ []) bytes bb x (PushR (reg_of (op - 0x50)))
      (ap (λ k. k ∷ []) (numbered 0x50 op p.0 p.1)) (not_esp 0x50 op p.0 p.1 esp.0) f) (λ _ e.
      by_test (nat_le 0x58 op && nat_le op 0x5f) _ _ (Some x)
      (λ h f.
      let p = within 0x58 0x5f op h in
      bare_row (op ∷ []) bytes bb x (PopR (reg_of (op - 0x58)))
      (ap (λ k. k ∷ []) (numbered 0x58 op p.0 p.1)) (not_esp 0x58 op p.0 p.1 esp.1) f)
      (λ _ f. absurd (none_some f))
      e) e) e) e) e) e

  move_takes : move_at op bytes ≡ Some x → IsIns (op ∷ bytes) x
  unfolding move_at
  move_takes e =
      by_test (op == 0x81) _ _ (Some x)
      (λ h f. at_op 0x81 op bytes x h (alu_word_takes bytes bb x f)) (λ _ e.
      by_test (op == 0x83) _ _ (Some x)
      (λ h f. at_op 0x83 op bytes x h (alu_short_takes bytes bb x f)) (λ _ e.
      by_test (op == 0x85) _ _ (Some x) (λ h f. at_op 0x85 op bytes x h
      (register_row (0x85 ∷ []) bytes bb x (λ reg r. Test r (reg_of reg))
      (λ reg r h. ap (λ k. 0x85 ∷ operand k (rm.Reg r)) (reg_back reg h)) (λ reg r. tt) f))
      (λ _ e.
      by_test (op == 0x87) _ _ (Some x) (λ h f. at_op 0x87 op bytes x h
      (register_row (0x87 ∷ []) bytes bb x (λ reg r. Xchg r (reg_of reg))
      (λ reg r h. ap (λ k. 0x87 ∷ operand k (rm.Reg r)) (reg_back reg h)) (λ reg r. tt) f))
      (λ _ e.
      by_test (op == 0x89) _ _ (Some x) (λ h f. at_op 0x89 op bytes x h
      (operand_row (0x89 ∷ []) bytes bb x (λ reg r. MovRmR r (reg_of reg))
      (λ reg r h. ap (λ k. 0x89 ∷ operand k r) (reg_back reg h)) (λ reg r is. is) f)) (λ _ e.
      by_test (op == 0x8b) _ _ (Some x) (λ h f. at_op 0x8b op bytes x h
      (operand_row (0x8b ∷ []) bytes bb x (λ reg r. MovRRm (reg_of reg) r)
      (λ reg r h. ap (λ k. 0x8b ∷ operand k r) (reg_back reg h)) (λ reg r is. is) f)) (λ _ e.
      by_test (op == 0x8d) _ _ (Some x) (λ h f. at_op 0x8d op bytes x h
      (memory_row (0x8d ∷ []) bytes bb x (λ reg a. Lea (reg_of reg) a)
      (λ reg a h. ap (λ k. 0x8d ∷ operand k (rm.Mem a)) (reg_back reg h)) (λ reg a is. is) f))
      (λ _ e.
      by_test (op == 0x99) _ _ (Some x)
      (λ h f. at_op 0x99 op bytes x h (bare_row (0x99 ∷ []) bytes bb x Cdq refl tt f))
      (λ _ f. absurd (none_some f))
      e) e) e) e) e) e) e) e

  ret_takes : (half_at bytes >>= λ n. let y : Ins × List ℕ = (RetI n.0, n.1) in Some y) ≡ Some x →
      IsIns (0xc2 ∷ bytes) x
  ret_takes e =
      let n = bind_some (half_at bytes) _ x e in
      let t = half_takes bytes bb n.0 n.1 in
      subst (IsIns (0xc2 ∷ bytes)) (some_same (RetI n.0.0, n.0.1) x n.2)
      (row (0xc2 ∷ []) bytes (to_le_bytes w16 n.0.0) n.0.1 (RetI n.0.0) t.0 refl t.1)

  int_takes : (byte_at bytes >>= λ n. if is_service n.0 then
      (let y : Ins × List ℕ = (Int n.0, n.1) in Some y) else None) ≡ Some x → IsIns (0xcd ∷ bytes) x
  int_takes e =
      let n = bind_some (byte_at bytes) _ x e in
      let t = byte_takes bytes bb n.0 n.1 in
      by_test (is_service n.0.0) _ _ (Some x)
      (λ h f. subst (IsIns (0xcd ∷ bytes)) (some_same (Int n.0.0, n.0.1) x f)
      (row (0xcd ∷ []) bytes (n.0.0 ∷ []) n.0.1 (Int n.0.0) t.0 refl h))
      (λ h f. absurd (none_some f))
      n.2

  constant_takes : constant_at op bytes ≡ Some x → IsIns (op ∷ bytes) x
  unfolding constant_at
  constant_takes e =
      by_test (op == 0xc1) _ _ (Some x) (λ h f. at_op 0xc1 op bytes x h (shift_takes bytes bb x f))
      (λ _ e.
      by_test (op == 0xc2) _ _ (Some x) (λ h f. at_op 0xc2 op bytes x h (ret_takes f)) (λ _ e.
      by_test (op == 0xc3) _ _ (Some x)
      (λ h f. at_op 0xc3 op bytes x h (bare_row (0xc3 ∷ []) bytes bb x Ret refl tt f)) (λ _ e.
      by_test (op == 0xc7) _ _ (Some x)
      (λ h f. at_op 0xc7 op bytes x h (mov_word_takes bytes bb x f)) (λ _ e.
      by_test (op == 0xcd) _ _ (Some x) (λ h f. at_op 0xcd op bytes x h (int_takes f)) (λ _ e.
      by_test (nat_le 0xb8 op && nat_le op 0xbf) _ _ (Some x)
      (λ h f.
      let p = within 0xb8 0xbf op h in
      word_row (op ∷ []) bytes bb x (MovRI (reg_of (op - 0xb8)))
      (λ n. ap (λ k. k ∷ imm32 n) (numbered 0xb8 op p.0 p.1)) (λ n f. f) f)
      (λ _ f. absurd (none_some f))
      e) e) e) e) e) e

  jump_takes : jump_at op bytes ≡ Some x → IsIns (op ∷ bytes) x
  unfolding jump_at
  jump_takes e =
      by_test (op == 0xe8) _ _ (Some x)
      (λ h f. at_op 0xe8 op bytes x h
      (word_row (0xe8 ∷ []) bytes bb x Call (λ n. refl) (λ n f. f) f)) (λ _ e.
      by_test (op == 0xe9) _ _ (Some x)
      (λ h f. at_op 0xe9 op bytes x h
      (word_row (0xe9 ∷ []) bytes bb x Jmp (λ n. refl) (λ n f. f) f)) (λ _ e.
      by_test (op == 0xf7) _ _ (Some x) (λ h f. at_op 0xf7 op bytes x h (unary_takes bytes bb x f))
      (λ _ e.
      by_test (op == 0xff) _ _ (Some x)
      (λ h f. at_op 0xff op bytes x h (push_memory_takes bytes bb x f))
      (λ _ f. absurd (none_some f))
      e) e) e) e

two_byte_takes : (bytes : List ℕ) → IsBytes bytes → (x : Ins × List ℕ) →
    (byte_at bytes >>= λ b. extended_at b.0 b.1) ≡ Some x → IsIns (0x0f ∷ bytes) x
two_byte_takes bytes bb x e =
    let b = bind_some (byte_at bytes) _ x e in
    let t = byte_takes bytes bb b.0 b.1 in
    subst (λ l. IsIns (0x0f ∷ l) x) (sym t.0.all) (extended_takes b.0.0 b.0.1 t.0.bytes_left x b.2)

module _ (op : ℕ) (bytes : List ℕ) (bb : IsBytes bytes) (x : Ins × List ℕ) where
  alu_takes : alu_at op bytes ≡ Some x → IsIns (op ∷ bytes) x
  unfolding alu_at
  alu_takes e =
      by_test (op == 0x0f) _ _ (Some x)
      (λ h f. at_op 0x0f op bytes x h (two_byte_takes bytes bb x f)) (λ _ e.
      by_test (op % 8 == 1) _ _ (Some x) (λ h f. alu_left_takes op bytes bb x h f) (λ _ e.
      by_test (op % 8 == 3) _ _ (Some x) (λ h f. alu_right_takes op bytes bb x h f)
      (λ _ f. absurd (none_some f))
      e) e) e

  opcode_takes : opcode_at op bytes ≡ Some x → IsIns (op ∷ bytes) x
  unfolding opcode_at
  opcode_takes e =
      by_test (nat_lt op 0x40) _ _ (Some x) (λ _ f. alu_takes f) (λ _ e.
      by_test (nat_lt op 0x80) _ _ (Some x) (λ _ f. stack_takes op bytes bb x f) (λ _ e.
      by_test (nat_lt op 0xa0) _ _ (Some x) (λ _ f. move_takes op bytes bb x f) (λ _ e.
      by_test (nat_lt op 0xe0) _ _ (Some x) (λ _ f. constant_takes op bytes bb x f)
      (λ _ f. jump_takes op bytes bb x f)
      e) e) e) e

-- what is read is the table's, in front of what is left
pub instruction_takes : (bytes : List ℕ) → IsBytes bytes → (x : Ins × List ℕ) →
    instruction_at bytes ≡ Some x → (bytes ≡ bytes_of x.0 ++ x.1) × IsSound x.0
unfolding instruction_at IsIns
instruction_takes bytes bb x e =
    let b = bind_some (byte_at bytes) _ x e in
    let t = byte_takes bytes bb b.0 b.1 in
    let r = opcode_takes b.0.0 b.0.1 t.0.bytes_left x b.2 in
    (t.0.all ∙ r.0.all, r.1)
