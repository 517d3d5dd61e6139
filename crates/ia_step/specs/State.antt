-- The state of the machine: registers, flags, EIP and three regions of a flat memory (SDM volume 1,
-- sections 3.3 and 3.4), and beside them what the services of the host need.
use Rattle.std.specs.Prelude.{ℕ, ℤ, ◌*◌, List}
use Rattle.ia_code.specs.declared.image.Image.{Image}
use Rattle.ia_code.specs.Regions.{code_base, stack_top, stack_length}
use Rattle.ia_code.specs.declared.ins.Reg.{Reg}
use Rattle.ia_step.specs.declared.registers.Registers.{Registers}
use Rattle.ia_step.specs.declared.flags.Flags.{Flags}
use Rattle.ia_step.specs.declared.out.Ending.{Ending}
use Rattle.ia_step.specs.declared.out.Ending.TheVariants.{Going}
use Rattle.ia_step.specs.Registers.{with_reg}
use Rattle.ia_step.specs.Memory.{zeros}
use Rattle.ia_step.specs.Arithmetic.{no_flags}

pub record State : Type 0 where
  pub regs : Registers
  pub flags : Flags
  pub eip : ℕ
  -- the bytes of the code, data and stack regions
  pub code : List ℕ
  pub storage : List ℕ
  pub stack : List ℕ
  -- the input words that are left, and how many were taken
  pub input : List ℤ
  pub taken : ℕ
  -- how the machine ended, or Going
  pub ending : Ending

-- the state with another value in a register, with other flags, at another instruction
abbrev pub with_register : State → Reg → ℕ → State
with_register s r v = record s { regs = with_reg s.regs r v }

abbrev pub with_flags : State → Flags → State
with_flags s f = record s { flags = f }

abbrev pub at : State → ℕ → State
at s eip = record s { eip = eip }

-- the state with an ending
abbrev pub over : State → Ending → State
over s e = record s { ending = e }

-- a loaded image: EIP at the first byte of the code, ESP at the top of the stack, all else 0, and
-- no flag known
abbrev pub start : Image → List ℤ → State
start image input = record {
  regs = record { eax = 0; ecx = 0; edx = 0; ebx = 0; esp = stack_top; ebp = 0; esi = 0; edi = 0 };
  flags = no_flags;
  eip = code_base;
  code = image.code;
  storage = zeros (image.data_words * 4);
  stack = zeros stack_length;
  input = input;
  taken = 0;
  ending = Going;
}
