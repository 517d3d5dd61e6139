-- How many bytes moves become.
use Rattle.std.proofs.Common.{◌≡◌, ℕ, Bool, true, false, if◌then◌else◌, List, [], ◌∷◌, length, map}
use Rattle.std.proofs.Common.{refl, arith}
use Rattle.std.specs.Prelude.{ℤ, sum_by}
use Rattle.std.proofs.lemmas.List.Sums.{sum_by-cons}
use Rattle.ia_code.specs.declared.ins.Rm.TheVariants as rm
use Rattle.ia_code.specs.declared.ins.Width.TheVariants.{D8, D32}
use Rattle.ia_code.specs.DecodeTable.{operand, bytes_of}
use Rattle.ia_emit.specs.declared.item.Item.TheVariants.{Plain}
use Rattle.ia_emit.specs.Code.{size}
use Rattle.ia_emit.specs.Emission.{emit_move}
use Rattle.ia_emit.specs.Operands.{frame_word, memory_at}
use Rattle.ia_emit.proofs.Sizes.{size-cons}
use Rattle.ia_code.specs.DecodeTable.{reg_number}
use Rattle.ia_emit.specs.Emission.{place_reg}
use Rattle.pl_moves.specs.declared.transfer.Move.{Move}
use Rattle.pl_moves.specs.declared.transfer.Move.TheVariants.{Copy, Swap, Load, Store, Set}
use Rattle.pl_moves.specs.Lengths.{with_displacement, move_bytes}
use Rattle.pl_place.specs.declared.placed.LProc.{LProc}

in_frame : (near : Bool) (opcode reg : ℕ) (d : ℤ) →
    length (opcode ∷ operand reg (rm.Mem (frame_word (if near then D8 else D32) d))) ≡
    with_displacement near
in_frame true opcode reg d = omega arith
in_frame false opcode reg d = omega arith

pub bytes_are : (p : LProc) (m : Move) → length (bytes_of (emit_move p m)) ≡ move_bytes p.near m
bytes_are p (Copy to from) = omega arith
bytes_are p (Swap one other) = omega arith
bytes_are p (Load to v) = in_frame p.near 0x8b (reg_number (place_reg to)) (memory_at p v.0)
bytes_are p (Store v from) = in_frame p.near 0x89 (reg_number (place_reg from)) (memory_at p v.0)
bytes_are p (Set to n) = omega arith

pub all_bytes_are : (p : LProc) (ms : List Move) →
    size (map (λ m. Plain (emit_move p m)) ms) ≡ sum_by (move_bytes p.near) ms
all_bytes_are p [] = refl
all_bytes_are p (m ∷ ms) =
    let one = bytes_are p m in
    let more = all_bytes_are p ms in
    let left = size-cons (Plain (emit_move p m)) (map (λ m. Plain (emit_move p m)) ms) in
    let right = sum_by-cons (move_bytes p.near) m ms in
    omega (arith, one, more, left, right)
