-- The codes so far are what they have to be.
use Rattle.pra_compile.specs.Compiled.{codes_named}
use Rattle.pra_tool.specs.Sources.{HaveCodeUpTo}
use Rattle.pra_tool.proofs.source.first_broken.Given as goal

abbrev pub invariant-loop-number : goal.invariant-loop-number
invariant-loop-number l = HaveCodeUpTo (codes_named l.procs) l.number
