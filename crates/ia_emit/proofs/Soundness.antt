-- What valid placed code becomes is in the table of bytes.
use Rattle.std.proofs.Common.{◌≡◌, true, false, ℕ, zero, suc, ◌+◌, Bool, List, [], ◌∷◌, ◌++◌}
use Rattle.std.proofs.Common.{Option, Some, None, refl, ap, arith, eq-eqb}
use Rattle.std.specs.Prelude.{ℤ, pos, if◌then◌else◌, nat_eq, slice_get, slice_index_or, option_map}
use Rattle.std.specs.Prelude.{flat_map, int_le}
use Rattle.std.specs.Int.{w8, w32}
use Rattle.std.specs.Int.RustNames.{FitsSigned}
use Rattle.std.proofs.lemmas.Int.{ints}
use Rattle.std.proofs.lemmas.Bool.Decides.{nat_tests}
use Rattle.std.proofs.lemmas.Nat.Bits.{bit_at_and}
use Rattle.pra_list.proofs.Choices.{either, and_true}
use Rattle.ia_code.specs.declared.ins.Reg.{Reg}
use Rattle.ia_code.specs.declared.ins.Reg.TheVariants.{Eax, Ecx, Edx, Ebx, Esp, Ebp, Esi, Edi}
use Rattle.ia_code.specs.declared.ins.Width.{Width}
use Rattle.ia_code.specs.declared.ins.Width.TheVariants.{D0, D8, D32}
use Rattle.ia_code.specs.declared.ins.MemAddr.{MemAddr}
use Rattle.ia_code.specs.declared.ins.AluOp.{AluOp}
use Rattle.ia_code.specs.declared.ins.AluOp.TheVariants as alu
use Rattle.ia_code.specs.DecodeTable.{is_register, has_low_byte, is_index, is_base, Holds}
use Rattle.ia_code.specs.DecodeTable.{IsAddress, IsOperand, IsSound}
use Rattle.ia_emit.specs.declared.item.Item.{Item}
use Rattle.ia_emit.specs.declared.item.Item.TheVariants.{Plain}
use Rattle.ia_emit.specs.declared.item.Operand.{Operand}
use Rattle.ia_emit.specs.declared.item.Operand.TheVariants.{Register, Memory, Number}
use Rattle.ia_emit.specs.Operands.{free_register, register_at, locals, memory_at, width_of, cell}
use Rattle.ia_emit.specs.Operands.{operand, via_width, is_zero, object_word}
use Rattle.ia_emit.specs.Emission.{rm_of, reg_of, set, copy, alu_number, combine, multiply, push}
use Rattle.ia_emit.specs.Emission.{store, address, via_count, at, emit_op, emit_move, emit, jump_to}
use Rattle.ia_emit.specs.Emission.{return, emit_end, emit_block, emit_blocks, lowered, prologue}
use Rattle.ia_emit.specs.Emission.{emit_proc}
use Rattle.ia_emit.specs.Sound.{NumbersFit, SoundWhereFits, EachSound}
use Rattle.net_form.specs.Tables.{is_short}
use Rattle.pl_moves.specs.declared.transfer.Move.{Move}
use Rattle.pl_moves.specs.declared.transfer.Move.TheVariants as move
use Rattle.pl_place.specs.declared.placed.LBlock.{LBlock}
use Rattle.pl_place.specs.declared.placed.LInstr.{LInstr}
use Rattle.pl_place.specs.declared.placed.LInstr.TheVariants as placed
use Rattle.pl_place.specs.declared.placed.LProc.{LProc}
use Rattle.pl_place.specs.Placed.{place_in}
use Rattle.pl_place.specs.Valid.{OperandsPlaced}
use Rattle.pra_base.specs.declared.code.Addr.{Addr}
use Rattle.pra_base.specs.declared.code.Base.{Base}
use Rattle.pra_base.specs.declared.code.Base.TheVariants as base
use Rattle.pra_base.specs.declared.code.End.{End}
use Rattle.pra_base.specs.declared.code.End.TheVariants as end
use Rattle.pra_base.specs.declared.code.VInstr.{VInstr}
use Rattle.pra_base.specs.declared.code.VInstr.TheVariants as instr
use Rattle.pra_base.specs.declared.ids.BlockId.{BlockId}
use Rattle.pra_base.specs.declared.ids.Place.{Place}
use Rattle.pra_base.specs.declared.ids.Place.TheVariants as place
use Rattle.pra_base.specs.declared.ids.VarId.{VarId}
use Rattle.pra_base.specs.Operands.{B, Line, table, common, all_roles, but_memory, mask_of}
use Rattle.pra_base.specs.Operands.{own_places}
use Rattle.pra_base.specs.Places.{number, has_register, is_mem, allows, meet}

-- ---- registers

pub not_esp : (r : ℕ) → is_register (free_register r) Esp ≡ false
not_esp zero = refl
not_esp (suc zero) = refl
not_esp (suc (suc zero)) = refl
not_esp (suc (suc (suc zero))) = refl
not_esp (suc (suc (suc (suc zero)))) = refl
not_esp (suc (suc (suc (suc (suc zero))))) = refl
not_esp (suc (suc (suc (suc (suc (suc r)))))) = refl

not_ebp : (r : ℕ) → is_register (free_register r) Ebp ≡ false
not_ebp zero = refl
not_ebp (suc zero) = refl
not_ebp (suc (suc zero)) = refl
not_ebp (suc (suc (suc zero))) = refl
not_ebp (suc (suc (suc (suc zero)))) = refl
not_ebp (suc (suc (suc (suc (suc zero))))) = refl
not_ebp (suc (suc (suc (suc (suc (suc r)))))) = refl

any_width : (r : Reg) → is_register r Ebp ≡ false → (w : Width) → is_base (Some r) w ≡ true
any_width Eax e w = refl
any_width Ecx e w = refl
any_width Edx e w = refl
any_width Ebx e w = refl
any_width Esp e w = refl
any_width Ebp e w = cc
any_width Esi e w = refl
any_width Edi e w = refl

-- ---- masks

pub allowed_first : (a b p : ℕ) → allows (meet a b) p ≡ true → allows a p ≡ true
allowed_first a b p e = let both = bit_at_and a b p in grind (arith, nat_tests)

pub allowed_second : (a b p : ℕ) → allows (meet a b) p ≡ true → allows b p ≡ true
allowed_second a b p e = let both = bit_at_and a b p in grind (arith, nat_tests)

-- the place of a role that is in no memory pair is one of the role's mask
allowed_in_common : (l : Line) (v p : ℕ) → allows (mask_of l v) p ≡ true →
    allows (common (all_roles l) v) p ≡ true
allowed_in_common l v p =
    either (λ m. allows m p ≡ true → allows (common (all_roles l) v) p ≡ true) _
    (but_memory (common (all_roles l) v)) (common (all_roles l) v)
    (λ _. allowed_first (common (all_roles l) v) _ p) (λ _ e. e)

last_met : (t : Bool) (m p : ℕ) → t ≡ true → allows (if t then meet m B else m) p ≡ true →
    allows B p ≡ true
last_met true m p t e = allowed_second m B p e
last_met false m p t e = cc

low_byte : (p : LProc) (v : ℕ) (q : Place) → allows B (number q) ≡ true →
    has_low_byte (reg_of (operand p v (number q))) ≡ true
low_byte p v place.Eax e = refl
low_byte p v place.Ecx e = refl
low_byte p v place.Edx e = refl
low_byte p v place.Ebx e = refl
low_byte p v place.Esi e = cc
low_byte p v place.Edi e = cc
low_byte p v place.Mem e = cc
low_byte p v place.Const e = cc
low_byte p v place.EaxM e = cc
low_byte p v place.EcxM e = cc
low_byte p v place.EdxM e = cc
low_byte p v place.EbxM e = cc
low_byte p v place.EsiM e = cc
low_byte p v place.EdiM e = cc

-- ---- what numbers say

is_nought : (n : ℤ) → is_zero n ≡ true → n ≡ pos 0
is_nought n e = let both = and_true (int_le (pos 0) n) (int_le n (pos 0)) e in grind (arith, ints)

short_fits : (n : ℤ) → is_short n ≡ true → FitsSigned w8 n
short_fits n e = grind (arith, ints, nat_tests)

-- ---- operands

-- each variable's own memory is within the displacements of its procedure
abbrev pub CellsHold : LProc → Type 0
CellsHold p = (v : ℕ) → Holds (width_of p) (memory_at p v)

abbrev SoundOperand : Operand → Type 0
SoundOperand (Register r) = is_register r Esp ≡ false
SoundOperand (Memory a) = IsAddress a
SoundOperand (Number n) = Unit {0}

rm_sound : (o : Operand) → SoundOperand o → IsOperand (rm_of o)
rm_sound (Register r) s = tt
rm_sound (Memory a) s = s
rm_sound (Number n) s = tt

set_sound : (o : Operand) (n : ℤ) → SoundOperand o → SoundWhereFits (Plain (set o n))
set_sound (Register r) n s = λ f. f
set_sound (Memory a) n s = λ f. (s, f.1)
set_sound (Number m) n s = λ f. (tt, f.1)

copy_sound : (to from : Operand) → SoundOperand to → SoundOperand from →
    SoundWhereFits (Plain (copy to from))
copy_sound to (Register r) s t = λ f. rm_sound to s
copy_sound to (Memory a) s t = λ f. t
copy_sound to (Number n) s t = λ f. tt

number_sound : (op : AluOp) (to : Operand) (n : ℤ) → SoundOperand to →
    SoundWhereFits (Plain (alu_number op to n))
number_sound op to n s =
    either (λ i. NumbersFit i → IsSound i) (is_short n) _ _ (λ _ f. (rm_sound to s, f.1))
    (λ _ f. (rm_sound to s, f.1))

combine_sound : (op : AluOp) (to from : Operand) → SoundOperand to → SoundOperand from →
    SoundWhereFits (Plain (combine op to from))
combine_sound op to (Register r) s t = λ f. rm_sound to s
combine_sound op to (Memory a) s t = λ f. t
combine_sound op to (Number n) s t = number_sound op to n s

multiply_sound : (r : Reg) (from : Operand) → SoundOperand from →
    SoundWhereFits (Plain (multiply r from))
multiply_sound r (Register q) t = λ f. tt
multiply_sound r (Memory a) t = λ f. t
multiply_sound r (Number n) t =
    either (λ i. NumbersFit i → IsSound i) (is_short n) _ _ (λ _ f. (tt, f.1)) (λ _ f. (tt, f.1))

push_sound : (from : Operand) → SoundOperand from → SoundWhereFits (Plain (push from))
push_sound (Register r) t = λ f. t
push_sound (Memory a) t = λ f. t
push_sound (Number n) t = λ f. f

store_sound : (a : MemAddr) (from : Operand) → (FitsSigned w32 a.disp → IsAddress a) →
    SoundWhereFits (Plain (store a from))
store_sound a (Register r) s = λ f. s f
store_sound a (Memory b) s = λ f. s f
store_sound a (Number n) s = λ f. (s f.0, f.1)

-- ---- addresses

sound_index : (q : ℕ) → is_index (Some (register_at q, 4)) ≡ true
sound_index q = indexed (register_at q) (not_esp _)
  where
    indexed : (r : Reg) → is_register r Esp ≡ false → is_index (Some (r, 4)) ≡ true
    indexed r e = ap (λ b. if b then false else true) e

via_holds : (n : ℤ) → FitsSigned w32 n → Holds (via_width n) n
via_holds n f =
    either (λ w. Holds w n) (is_zero n) D0 (if is_short n then D8 else D32) (λ e. is_nought n e)
    (λ _. either (λ w. Holds w n) (is_short n) D8 D32 (λ e. short_fits n e) (λ _. f))

object_sound : (p : LProc) (b : Base) (q : ℕ) (n : ℤ) (index : Option (Reg × ℕ)) → is_index index ≡
    true →
    FitsSigned w32 (object_word p b (register_at q) n index).disp →
    IsAddress (object_word p b (register_at q) n index)
object_sound p (base.Global g) q n index i f = record { index = i; base = refl; disp = f }
object_sound p (base.Frame w) q n index i f = record { index = i; base = refl; disp = f }
object_sound p (base.Cell k) q n index i f = record { index = i; base = refl; disp = f }
object_sound p (base.Via v) q n index i f = record {
  index = i;
  base = any_width (register_at q) (not_ebp _) (via_width n);
  disp = via_holds n f;
}

address_sound : (p : LProc) (a : Addr) (places : List Place) →
    FitsSigned w32 (address p a places).disp → IsAddress (address p a places)
address_sound p a places f = object_sound p a.base (place_in places 0) a.offset _
    (sound_where a.index) f
  where
    sound_where : (x : Option VarId) →
        is_index (option_map (λ (v : VarId). (register_at (place_in places (via_count a.base)), 4))
        x) ≡ true
    sound_where None = refl
    sound_where (Some v) = sound_index (place_in places (via_count a.base))

-- ---- instructions

frame_base : (near : Bool) → is_base (Some Ebp) (if near then D8 else D32) ≡ true
frame_base true = refl
frame_base false = refl

both : (a b : List Item) → EachSound a → EachSound b → EachSound (a ++ b)
both [] b s t = t
both (i ∷ a) b s t = (s.0, both a b s.1 t)

module _ (p : LProc) (holds : CellsHold p) where
  cell_sound : (v : ℕ) → IsAddress (cell p v)
  cell_sound v = record { index = refl; base = frame_base p.near; disp = holds v }

  operand_sound : (v q : ℕ) → SoundOperand (operand p v q)
  operand_sound v q =
      either SoundOperand (has_register q) _ _ (λ _. not_esp _)
      (λ _. either SoundOperand (is_mem q) _ _ (λ _. cell_sound v) (λ _. tt))

  module _ (places : List Place) where
    there : (v : VarId) (k : ℕ) → SoundOperand (at p places v k)
    there v k = operand_sound v.0 (place_in places k)

    operation_sound : (op : AluOp) (v s : VarId) →
        SoundWhereFits (Plain (combine op (at p places v 0) (at p places s 1)))
    operation_sound op v s = combine_sound op (at p places v 0) (at p places s 1) (there v 0)
        (there s 1)

    -- SETcc has a register with a low byte
    op_sound : (i : VInstr) → OperandsPlaced p i places → EachSound (emit_op p i places)
    op_sound (instr.Set v n) is = (set_sound (at p places v 0) n (there v 0), tt)
    op_sound (instr.Copy v s) is =
        (copy_sound (at p places v 1) (at p places s 0) (there v 1) (there s 0), tt)
    op_sound (instr.Add v s) is = (operation_sound alu.Add v s, tt)
    op_sound (instr.Sub v s) is = (operation_sound alu.Sub v s, tt)
    op_sound (instr.And v s) is = (operation_sound alu.And v s, tt)
    op_sound (instr.Or v s) is = (operation_sound alu.Or v s, tt)
    op_sound (instr.Xor v s) is = (operation_sound alu.Xor v s, tt)
    op_sound (instr.Mul v s) is =
        (multiply_sound (reg_of (at p places v 0)) (at p places s 1) (there s 1), tt)
    op_sound (instr.Neg v) is = (λ f. rm_sound (at p places v 0) (there v 0), tt)
    op_sound (instr.Shift op v n) is = (λ f. (rm_sound (at p places v 0) (there v 0), f.1), tt)
    op_sound (instr.Cmp a b) is = (operation_sound alu.Cmp a b, tt)
    op_sound (instr.CmpSet c v a b) is =
        let l = table (instr.CmpSet c v a b) in
        let q = place_in places 2 in
        let own = own_places (slice_index_or p.vars v.0 _) in
        let in_mask : allows (mask_of l v.0) q ≡ true = allowed_first (mask_of l v.0) own q
        (is.allowed 2 _ refl) in
        let in_common : allows (common (all_roles l) v.0) q ≡ true =
        allowed_in_common l v.0 q in_mask in
        let low = low_byte p v.0 _ (last_met (nat_eq v.0 v.0) _ q (eq-eqb v.0 v.0 refl) in_common)
        in
        (operation_sound alu.Cmp a b, ((λ f. low), ((λ f. low), tt)))
    op_sound (instr.DivMod q r a d) is =
        ((λ f. tt), ((λ f. rm_sound (at p places d 1) (there d 1)), tt))
    op_sound (instr.Check i n) is = (number_sound alu.Cmp (at p places i 0) n (there i 0), (tt, tt))
    op_sound (instr.CheckPos d) is =
        (number_sound alu.Cmp (at p places d 0) (pos 0) (there d 0), (tt, tt))
    op_sound (instr.Load v a) is = (λ f. address_sound p a places f, tt)
    op_sound (instr.Store a s) is =
        (store_sound (address p a places) (at p places s _) (address_sound p a places), tt)
    op_sound (instr.Addr v a) is = (λ f. address_sound p a places f, tt)
    op_sound (instr.Push s) is = (push_sound (at p places s 0) (there s 0), tt)
    op_sound (instr.Call q) is = (tt, tt)
    op_sound (instr.Read v) is = (λ f. refl, tt)
    op_sound (instr.Write s) is = (λ f. refl, tt)
    op_sound instr.Line is = (λ f. refl, tt)
    op_sound instr.Clear is = (
      (λ f. f),
      (
        (λ f. (record { index = refl; base = refl; disp = f.0 }, f.1)),
        ((λ f. (tt, f.1)), ((λ f. f), tt)),
      ),
    )

  move_sound : (m : Move) → SoundWhereFits (Plain (emit_move p m))
  move_sound (move.Copy to from) = λ f. tt
  move_sound (move.Swap a b) = λ f. tt
  move_sound (move.Load to v) = λ f. cell_sound v.0
  move_sound (move.Store v from) = λ f. cell_sound v.0
  move_sound (move.Set to n) = λ f. f

  code_sound : (code : List LInstr) →
      ((k : ℕ) (i : VInstr) (places : _) → slice_get code k ≡ Some (placed.Op i places) →
      OperandsPlaced p i places.items) →
      EachSound (flat_map (emit p) code)
  code_sound [] is = tt
  code_sound (placed.Op i places ∷ rest) is =
      both (emit p (placed.Op i places)) (flat_map (emit p) rest)
      (op_sound places.items i (is 0 i places refl))
      (code_sound rest (λ k j more e. is (suc k) j more e))
  code_sound (placed.Move m ∷ rest) is =
      (move_sound m, code_sound rest (λ k j more e. is (suc k) j more e))

  jump_sound : (next : ℕ) (b : BlockId) → EachSound (jump_to next b)
  jump_sound next b = either EachSound (nat_eq b.0 next) _ _ (λ _. tt) (λ _. (tt, tt))

  return_sound : (n : ℕ) → SoundWhereFits (Plain (return n))
  return_sound zero = λ f. tt
  return_sound (suc n) = λ f. f

  end_sound : (next : ℕ) (e : End) → EachSound (emit_end p next e)
  end_sound next (end.Jump b) = jump_sound next b
  end_sound next (end.Branch c one other) = (tt, jump_sound next other)
  end_sound next end.Return = (
    (λ f. record { index = refl; base = refl; disp = omega (arith, ints) }),
    ((λ f. refl), ((λ f. refl), ((λ f. refl), ((λ f. refl), (return_sound p.args, tt))))),
  )

  blocks_sound : (k : ℕ) (blocks : List LBlock) →
      ((j : ℕ) (b : LBlock) (m : ℕ) (i : VInstr) (places : _) → slice_get blocks j ≡ Some b →
      slice_get b.code m ≡ Some (placed.Op i places) → OperandsPlaced p i places.items) →
      EachSound (emit_blocks p k blocks)
  blocks_sound k [] is = tt
  blocks_sound k (b ∷ rest) is =
      both (emit_block p k b) (emit_blocks p (k + 1) rest)
      (both (flat_map (emit p) b.code) (emit_end p (k + 1) b.end)
      (code_sound b.code (λ m i places e. is 0 b m i places refl e)) (end_sound (k + 1) b.end))
      (blocks_sound (k + 1) rest (λ j c m i places e f. is (suc j) c m i places e f))

  lowered_sound : (n : ℕ) → EachSound (lowered n)
  lowered_sound zero = tt
  lowered_sound (suc n) = (λ f. (tt, f.1), tt)

  pub proc_sound :
      ((j : ℕ) (b : LBlock) (m : ℕ) (i : VInstr) (places : _) → slice_get p.blocks j ≡ Some b →
      slice_get b.code m ≡ Some (placed.Op i places) → OperandsPlaced p i places.items) →
      EachSound (emit_proc p)
  proc_sound is =
      both (prologue p) (emit_blocks p 0 p.blocks) (
        (λ f. refl),
        (
          (λ f. tt),
          (
            (λ f. (tt, f.1)),
            (
              tt,
              (
                (λ f. refl),
                ((λ f. refl), ((λ f. refl), lowered_sound (locals p))),
              ),
            ),
          ),
        ),
      )
      (blocks_sound 0 p.blocks is)
