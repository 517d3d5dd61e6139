-- The counts of the procedures so far.
use Rattle.std.proofs.Common.{◌≡◌, take}
use Rattle.pra_base.specs.Valid.{counts_of}
use Rattle.pra_compile.specs.Compiled.{codes_named}
use Rattle.pra_tool.proofs.source.counts_of.Given as goal

abbrev pub invariant-loop-named : goal.invariant-loop-named
invariant-loop-named l = l.counts.items ≡ counts_of (codes_named (take l.named-index l.procs))
