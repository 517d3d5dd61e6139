-- the code of the procedures so far
use Rattle.pra_compile.specs.Tidied.{IsCodeUpTo}
use Rattle.pra_compile.proofs.module.code_of_module.Given as goal

abbrev pub invariant-loop-number : goal.invariant-loop-number
invariant-loop-number l = IsCodeUpTo l.checked l.number l.procs
