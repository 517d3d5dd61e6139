use Rattle.std.proofs.Common.{◌≡◌, ◌++◌, drop}
use Rattle.pra_report.specs.Report.{procedures_text}
use Rattle.pra_report.proofs.report.procedures_text.Given as goal

abbrev pub invariant-loop-number : goal.invariant-loop-number
invariant-loop-number l = l.text.items ++ procedures_text l.number (drop l.number l.procs) ≡
    procedures_text 0 l.procs
