-- The codes so far, and those that are left, are all.
use Rattle.std.proofs.Common.{◌≡◌, ◌++◌, drop}
use Rattle.pra_compile.specs.Compiled.{codes_of}
use Rattle.pra_tool.specs.Reports.{codes_behind}
use Rattle.pra_tool.proofs.report.codes_of.Given as goal

abbrev pub invariant-loop-proc : goal.invariant-loop-proc
invariant-loop-proc l =
    codes_behind l.codes.items ++ codes_of (drop l.proc-index l.procs) ≡ codes_of l.procs
