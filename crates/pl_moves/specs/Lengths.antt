-- How long moves are in IA-32 code.
use Rattle.std.specs.Prelude.{ℕ, Bool, if◌then◌else◌}
use Rattle.pl_moves.specs.declared.transfer.Move.{Move}
use Rattle.pl_moves.specs.declared.transfer.Move.TheVariants.{Copy, Swap, Load, Store, Set}

-- opcode, ModR/M byte, and a displacement from EBP of 8 bits where the procedure is near, else of
-- 32 bits
abbrev pub with_displacement : Bool → ℕ
with_displacement near = if near then 3 else 6

-- The bytes of a move (Intel SDM volume 2, MOV and XCHG): MOV r/m32, r32 and XCHG r/m32, r32
-- between registers, MOV r32, r/m32 from and MOV r/m32, r32 to memory, MOV r32, imm32.
abbrev pub move_bytes : Bool → Move → ℕ
move_bytes near (Copy r q) = 2
move_bytes near (Swap r q) = 2
move_bytes near (Load r v) = with_displacement near
move_bytes near (Store v r) = with_displacement near
move_bytes near (Set r n) = 5
