-- The map of memory: three regions of one flat address space (SDM volume 1, section 3.3.1). Nothing
-- else can be fetched, read or written.
use Rattle.std.specs.Prelude.{ℕ}

-- the code, which is fetched and neither read nor written
abbrev pub code_base : ℕ
code_base = 0x0100_0000

-- the doublewords of the program's data
abbrev pub data_base : ℕ
data_base = 0x0400_0000

-- the stack, which grows down from its top
abbrev pub stack_base : ℕ
stack_base = 0x0800_0000

abbrev pub stack_top : ℕ
stack_top = 0x0810_0400

abbrev pub stack_length : ℕ
stack_length = 0x0010_0400

-- The lowest bytes of the stack, into which no frame reaches: room for what a procedure pushes
-- before it has tested that its frame fits.
abbrev pub reserve : ℕ
reserve = 1024
