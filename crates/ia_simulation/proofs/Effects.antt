-- What the forms of instructions come to, on operands of any kind that were read and are written.
use Rattle.std.proofs.Common.{◌≡◌, ℕ, ◌%◌, ◌^◌, refl, sym, ap, ◌∙◌, subst, mul_comm}
use Rattle.std.specs.Prelude.{ℤ, Result, Ok}
use Rattle.pra_list.proofs.Choices.{either}
use Rattle.pra_list.specs.Results.{◌>>=◌}
use Rattle.ia_code.specs.declared.ins.AluOp.{AluOp}
use Rattle.ia_code.specs.declared.ins.Ins.TheVariants as ins
use Rattle.ia_code.specs.declared.ins.Reg.{Reg}
use Rattle.ia_code.specs.declared.ins.Rm.TheVariants as rm
use Rattle.ia_emit.specs.declared.item.Operand.{Operand}
use Rattle.ia_emit.specs.declared.item.Operand.TheVariants.{Register, Memory, Number}
use Rattle.ia_emit.specs.Emission.{rm_of, reg_of, set, copy, alu_number, combine, multiply_number}
use Rattle.ia_emit.specs.Emission.{multiply}
use Rattle.ia_emit.specs.Emission as emit
use Rattle.ia_step.specs.declared.flags.Flags.{Flags}
use Rattle.ia_step.specs.declared.out.FaultKind.{FaultKind}
use Rattle.ia_step.specs.declared.out.StepOut.TheVariants as out
use Rattle.ia_step.specs.Arithmetic.{result_of, flags_of, product_flags, diff_flags, shift_flags}
use Rattle.ia_step.specs.Effect.{goes, read_rm, write_rm, push, mov, alu, keep_result, imul, neg}
use Rattle.ia_step.specs.Effect.{shift}
use Rattle.ia_step.specs.Effect.{effect}
use Rattle.ia_step.specs.Registers.{get}
use Rattle.ia_step.specs.State.{State, with_register, with_flags}
use Rattle.net_form.specs.Tables.{is_short}
use Rattle.pra_base.specs.declared.ids.ShiftOp.{ShiftOp}
use Rattle.pra_base.specs.Words.{word, product32, diff32, shifted}
use Rattle.pra_base.proofs.Shifts.{shifted_low}
use Rattle.ia_simulation.proofs.Spots.{read}

-- an operand that can be written, and read as ModRM's rm field
abbrev pub IsPlace : Operand → Type 0
IsPlace (Register r) = Unit {0}
IsPlace (Memory a) = Unit {0}
IsPlace (Number n) = ⊥

-- not both of them are in memory
abbrev pub OneInMemory : Operand → Operand → Type 0
OneInMemory (Memory a) (Memory b) = ⊥
OneInMemory _ _ = Unit {0}

pub ok_same : {A : Type 0} (a b : A) → ◌≡◌ {A = Result A FaultKind} (Ok a) (Ok b) → a ≡ b
ok_same a b e = cc

module _ (m : State) where
  pub read_place : (o : Operand) (n : ℕ) → IsPlace o → read m o ≡ Ok n → read_rm m (rm_of o) ≡ Ok n
  unfolding read_rm
  read_place (Register r) n is e = e
  read_place (Memory a) n is e = e
  read_place (Number k) n is e = absurd is

  -- MOV
  moves : (o : Operand) (n : ℕ) (t : State) → write_rm m (rm_of o) n ≡ Ok t → mov m (rm_of o) n ≡
      Ok (t, out.Going)
  unfolding mov
  moves o n t w = ap (λ q. q >>= goes) w

  pub copies : (to from : Operand) (n : ℕ) (t : State) → IsPlace to → IsPlace from →
      OneInMemory to from → read m from ≡ Ok n →
      write_rm m (rm_of to) n ≡ Ok t → effect m (copy to from) ≡ Ok (t, out.Going)
  unfolding effect read_rm
  copies to (Register r) n t a b c e w = ap (mov m (rm_of to)) (ok_same (get m.regs r) n e)
      ∙ moves to n t w
  copies (Register r) (Memory x) n t a b c e w = ap (λ q. q >>= mov m (rm.Reg r)) e
      ∙ moves (Register r) n t w
  copies (Memory z) (Memory x) n t a b c e w = absurd c
  copies (Number k) (Memory x) n t a b c e w = absurd a
  copies to (Number k) n t a b c e w = absurd b

  pub sets : (to : Operand) (n : ℤ) (t : State) → IsPlace to → write_rm m (rm_of to) (word n) ≡
      Ok t → effect m (set to n) ≡ Ok (t, out.Going)
  unfolding effect
  sets (Register r) n t a w = moves (Register r) (word n) t w
  sets (Memory x) n t a w = moves (Memory x) (word n) t w
  sets (Number k) n t a w = absurd a

  -- the operations of one row of opcodes
  pub number_op : (op : AluOp) (to : Operand) (n : ℤ) → effect m (alu_number op to n) ≡
      alu op m (rm_of to) (word n)
  unfolding effect
  number_op op to n = either (λ i. effect m i ≡ alu op m (rm_of to) (word n)) (is_short n) _ _
      (λ _. refl) (λ _. refl)

  pub combines : (op : AluOp) (to from : Operand) (b : ℕ) → IsPlace to → OneInMemory to from →
      read m from ≡ Ok b →
      effect m (combine op to from) ≡ alu op m (rm_of to) b
  unfolding effect read_rm
  combines op to (Register r) b is one e = ap (alu op m (rm_of to)) (ok_same (get m.regs r) b e)
  combines op (Register r) (Memory x) b is one e = ap (λ q. q >>= alu op m (rm.Reg r)) e
  combines op (Memory z) (Memory x) b is one e = absurd one
  combines op (Number k) (Memory x) b is one e = absurd is
  combines op to (Number n) b is one e = number_op op to n ∙ ap (alu op m (rm_of to))
      (ok_same (word n) b e)

  -- what an operation leaves, where its result is kept as t
  pub operates : (op : AluOp) (to : Operand) (a b : ℕ) (t : State) → IsPlace to → read m to ≡ Ok a →
      keep_result op m (rm_of to) (result_of op a b) ≡ Ok t →
      alu op m (rm_of to) b ≡ Ok (with_flags t (flags_of op a b), out.Going)
  unfolding alu
  operates op to a b t is e w =
      ap (λ q. q >>= λ v. keep_result op m (rm_of to) (result_of op v b) >>= λ t. goes
      (with_flags t (flags_of op v b))) (read_place to a is e)
      ∙ ap (λ q. q >>= λ t. goes (with_flags t (flags_of op a b))) w

  -- IMUL; which flags it leaves is nobody's matter
  abbrev Multiplied : Reg → Operand → ℕ → ℕ → Type 0
  Multiplied r from a b = (f : Flags) ×
      (effect m (multiply r from) ≡
      Ok (with_flags (with_register m r (product32 a b)) f, out.Going))

  factors : (a b : ℕ) → product32 a b ≡ product32 b a
  factors a b = ap (λ n. n % 2 ^ 32) (mul_comm a b)

  by_number : (r : Reg) (n : ℤ) → effect m (multiply_number r n) ≡ imul m r (word n) (get m.regs r)
  unfolding effect read_rm
  by_number r n =
      either (λ i. effect m i ≡ imul m r (word n) (get m.regs r)) (is_short n)
      (ins.ImulB r (rm.Reg r) n) (ins.ImulI r (rm.Reg r) n)
      (λ _. refl) (λ _. refl)

  pub multiplies : (r : Reg) (from : Operand) (a b : ℕ) → read m (Register r) ≡ Ok a → read m from ≡
      Ok b → Multiplied r from a b
  unfolding effect read_rm imul
  multiplies r (Register q) a b f e = (
    product_flags (get m.regs r) (get m.regs q),
    ap (λ c. goes (with_flags (with_register m r c) (product_flags (get m.regs r) (get m.regs q))))
        (ap (λ c. product32 (get m.regs r) c) (ok_same (get m.regs q) b e) ∙ ap (λ c. product32 c b)
        (ok_same (get m.regs r) a f)),
  )
  multiplies r (Memory x) a b f e = (
    product_flags (get m.regs r) b,
    ap (λ q. q >>= imul m r (get m.regs r)) e
        ∙ ap (λ c. goes (with_flags (with_register m r (product32 c b))
        (product_flags (get m.regs r) b))) (ok_same (get m.regs r) a f),
  )
  multiplies r (Number n) a b f e = (
    product_flags (word n) (get m.regs r),
    by_number r n
        ∙ ap (λ c. goes (with_flags (with_register m r c) (product_flags (word n) (get m.regs r))))
        (ap (λ c. product32 c (get m.regs r)) (ok_same (word n) b e) ∙ ap (λ c. product32 b c)
        (ok_same (get m.regs r) a f) ∙ factors b a),
  )

  -- NEG
  pub negates : (o : Operand) (a : ℕ) (t : State) → IsPlace o → read m o ≡ Ok a →
      write_rm m (rm_of o) (diff32 0 a) ≡ Ok t →
      effect m (ins.Neg (rm_of o)) ≡ Ok (with_flags t (diff_flags 0 a), out.Going)
  unfolding effect neg
  negates o a t is e w =
      ap (λ q. q >>= λ v. write_rm m (rm_of o) (diff32 0 v) >>= λ t. goes
      (with_flags t (diff_flags 0 v))) (read_place o a is e)
      ∙ ap (λ q. q >>= λ t. goes (with_flags t (diff_flags 0 a))) w

  -- SHL, SHR, SAR
  pub shifts : (op : ShiftOp) (o : Operand) (a n : ℕ) (t : State) → IsPlace o → read m o ≡ Ok a →
      write_rm m (rm_of o) (shifted op a n) ≡ Ok t →
      effect m (ins.Shift op (rm_of o) n) ≡
      Ok (with_flags t (shift_flags m.flags (shifted op a n) n), out.Going)
  unfolding effect shift
  shifts op o a n t is e w =
      ap (λ q. q >>= λ v. write_rm m (rm_of o) (shifted op v n) >>= λ t. goes
      (with_flags t (shift_flags m.flags (shifted op v n) n))) (read_place o a is e)
      ∙ ap (λ q. q >>= λ t. goes (with_flags t (shift_flags m.flags (shifted op a n) n))) w

  -- by a count of which the low five bits are emitted
  pub shifts_low : (op : ShiftOp) (o : Operand) (a k : ℕ) (t : State) → IsPlace o →
      read m o ≡ Ok a → write_rm m (rm_of o) (shifted op a k) ≡ Ok t →
      effect m (ins.Shift op (rm_of o) (k % 32)) ≡
      Ok (with_flags t (shift_flags m.flags (shifted op a k) (k % 32)), out.Going)
  shifts_low op o a k t is e w =
      subst (λ n. effect m (ins.Shift op (rm_of o) (k % 32)) ≡
      Ok (with_flags t (shift_flags m.flags n (k % 32)), out.Going)) (shifted_low op a k)
      (shifts op o a (k % 32) t is e
      (subst (λ n. write_rm m (rm_of o) n ≡ Ok t) (sym (shifted_low op a k)) w))

  -- PUSH
  pub pushes : (from : Operand) (n : ℕ) → read m from ≡ Ok n → effect m (emit.push from) ≡
      push m n >>= goes
  unfolding effect
  pushes (Register r) n e = ap (λ v. push m v >>= goes) (ok_same (get m.regs r) n e)
  pushes (Memory a) n e = ap (λ q. q >>= λ v. push m v >>= goes) e
  pushes (Number k) n e = ap (λ v. push m v >>= goes) (ok_same (word k) n e)
