use Rattle.std.proofs.Common.{◌≡◌, ◌≤◌, length}
use Rattle.pra_report.specs.Input.{numeral, digits_on}
use Rattle.pra_report.proofs.input.numeral.Given as goal

abbrev pub invariant-digits : goal.invariant-digits
invariant-digits l = (numeral l.most l.digits ≡ digits_on l.most l.value l.rest) ×
    (l.value ≤ l.most)

abbrev pub decreases-digits : goal.decreases-digits
decreases-digits l = length l.rest
