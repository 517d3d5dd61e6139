use Rattle.std.proofs.Common.{◌≡◌, ◌++◌, drop}
use Rattle.pra_report.specs.Report.{round_lines}
use Rattle.pra_report.proofs.report.round_lines.Given as goal

abbrev pub invariant-loop-line : goal.invariant-loop-line
invariant-loop-line l = l.text.items ++ round_lines (drop l.line-index l.lines) ≡
    round_lines l.lines
