-- What a register holds after another was written.
use Rattle.std.proofs.Common.{◌≡◌, ℕ, false, refl, arith}
use Rattle.std.specs.Prelude.{◌==◌}
use Rattle.ia_code.specs.declared.ins.Reg.{Reg}
use Rattle.ia_code.specs.declared.ins.Reg.TheVariants.{Eax, Ecx, Edx, Ebx, Esp, Ebp, Esi, Edi}
use Rattle.ia_code.specs.DecodeTable.{reg_number}
use Rattle.ia_step.specs.declared.registers.Registers.{Registers}
use Rattle.ia_step.specs.Registers.{get, with_reg}

pub get-with_reg : (regs : Registers) (r : Reg) (v : ℕ) → get (with_reg regs r v) r ≡ v
get-with_reg regs Eax v = refl
get-with_reg regs Ecx v = refl
get-with_reg regs Edx v = refl
get-with_reg regs Ebx v = refl
get-with_reg regs Esp v = refl
get-with_reg regs Ebp v = refl
get-with_reg regs Esi v = refl
get-with_reg regs Edi v = refl

pub get-with_reg_other : (regs : Registers) (r q : Reg) (v : ℕ) → (reg_number q == reg_number r) ≡
    false → get (with_reg regs r v) q ≡ get regs q
get-with_reg_other regs r q v other = grind arith
