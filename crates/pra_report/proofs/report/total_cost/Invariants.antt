use Rattle.std.proofs.Common.{◌≡◌, ◌+◌, drop}
use Rattle.pra_report.specs.Report.{total_cost}
use Rattle.pra_report.proofs.report.total_cost.Given as goal

abbrev pub invariant-loop-proc : goal.invariant-loop-proc
invariant-loop-proc l = l.total + total_cost (drop l.proc-index l.procs) ≡ total_cost l.procs
