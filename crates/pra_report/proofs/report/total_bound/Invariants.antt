use Rattle.std.proofs.Common.{◌≡◌, ◌+◌, drop}
use Rattle.pra_report.specs.Report.{total_bound}
use Rattle.pra_report.proofs.report.total_bound.Given as goal

abbrev pub invariant-loop-proc : goal.invariant-loop-proc
invariant-loop-proc l = l.total + total_bound (drop l.proc-index l.procs) ≡ total_bound l.procs
