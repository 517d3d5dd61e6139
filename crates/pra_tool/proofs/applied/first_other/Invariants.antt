-- The codes so far are the same.
use Rattle.std.proofs.Common.{◌≡◌, take}
use Rattle.pra_compile.specs.Compiled.{codes_named}
use Rattle.pra_tool.specs.Applied.{codes_by}
use Rattle.pra_tool.proofs.applied.first_other.Given as goal

abbrev pub invariant-loop-number : goal.invariant-loop-number
invariant-loop-number l =
    take l.number (codes_by l.certs) ≡ take l.number (codes_named l.procs)
