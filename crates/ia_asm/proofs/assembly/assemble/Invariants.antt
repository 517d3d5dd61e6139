-- the procedures so far are added
use Rattle.std.proofs.Common.{take}
use Rattle.ia_asm.specs.Assembly.{IsAssembly}
use Rattle.ia_asm.proofs.assembly.assemble.Given as goal

abbrev pub invariant-loop-proc : goal.invariant-loop-proc
invariant-loop-proc l = IsAssembly (take l.proc-index l.procs) l.fn.data_words l.assembly
