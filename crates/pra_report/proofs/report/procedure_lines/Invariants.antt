use Rattle.std.proofs.Common.{◌≡◌, ◌++◌, drop}
use Rattle.pra_report.specs.Report.{procedure_lines}
use Rattle.pra_report.proofs.report.procedure_lines.Given as goal

abbrev pub invariant-loop-number : goal.invariant-loop-number
invariant-loop-number l = l.text.items ++ procedure_lines l.number (drop l.number l.procs) ≡
    procedure_lines 0 l.procs
