-- The eight general registers, and the address that an instruction names.
use Rattle.std.specs.Prelude.{ℕ, ◌+◌, ◌*◌, ◌%◌, ◌^◌, Option, Some, None}
use Rattle.pra_base.specs.Words.{word}
use Rattle.ia_code.specs.declared.ins.Reg.{Reg}
use Rattle.ia_code.specs.declared.ins.Reg.TheVariants.{Eax, Ecx, Edx, Ebx, Esp, Ebp, Esi, Edi}
use Rattle.ia_code.specs.declared.ins.MemAddr.{MemAddr}
use Rattle.ia_step.specs.declared.registers.Registers.{Registers}

-- what a register holds
abbrev pub get : Registers → Reg → ℕ
get regs Eax = regs.eax
get regs Ecx = regs.ecx
get regs Edx = regs.edx
get regs Ebx = regs.ebx
get regs Esp = regs.esp
get regs Ebp = regs.ebp
get regs Esi = regs.esi
get regs Edi = regs.edi

-- the registers with a value in one of them
abbrev pub with_reg : Registers → Reg → ℕ → Registers
with_reg regs Eax v = record regs { eax = v }
with_reg regs Ecx v = record regs { ecx = v }
with_reg regs Edx v = record regs { edx = v }
with_reg regs Ebx v = record regs { ebx = v }
with_reg regs Esp v = record regs { esp = v }
with_reg regs Ebp v = record regs { ebp = v }
with_reg regs Esi v = record regs { esi = v }
with_reg regs Edi v = record regs { edi = v }

abbrev pub base_of : Registers → Option Reg → ℕ
base_of regs None = 0
base_of regs (Some b) = get regs b

abbrev pub scaled_index_of : Registers → Option (Reg × ℕ) → ℕ
scaled_index_of regs None = 0
scaled_index_of regs (Some x) = get regs x.0 * x.1

-- the effective address, base + index * scale + displacement, modulo 2^32 (SDM volume 1, section
-- 3.7.5)
abbrev pub address_of : Registers → MemAddr → ℕ
address_of regs a = (base_of regs a.base + scaled_index_of regs a.index + word a.disp) % 2 ^ 32
