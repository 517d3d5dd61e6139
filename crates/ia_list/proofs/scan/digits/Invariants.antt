use Rattle.std.proofs.Common.{◌≡◌, ◌≤◌, length}
use Rattle.ia_list.specs.Reading.{digits_at}
use Rattle.ia_list.proofs.scan.digits.Given as goal

abbrev pub invariant-digits : goal.invariant-digits
invariant-digits l = (digits_at 0 l.bytes ≡ digits_at l.value l.rest) × (l.value ≤ 2147483648)

abbrev pub decreases-digits : goal.decreases-digits
decreases-digits l = length l.rest
