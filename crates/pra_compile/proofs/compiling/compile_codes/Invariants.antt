-- the procedures so far are compiled, and those of the file behind them are left
use Rattle.pra_compile.specs.CompiledProcs.{AreUnderway}
use Rattle.pra_compile.proofs.compiling.compile_codes.Given as goal

abbrev pub invariant-loop-named : goal.invariant-loop-named
invariant-loop-named g l =
    AreUnderway l.fn.file (g.A.Allocator.leaves l.allocator) l.procs l.named-iterator.rest.items
    l.assembly
