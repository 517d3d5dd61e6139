use Rattle.std.proofs.Common.{◌≡◌, length}
use Rattle.cert_check.specs.Tolls.{HasAdded}
use Rattle.cert_check.proofs.ties.add_tie.Given as goal

abbrev pub invariant-loop-slot : goal.invariant-loop-slot
invariant-loop-slot l = record {
  count : length l.sums ≡ length l.initial.sums;
  added : HasAdded l.initial.sums l.numbers l.strand l.tie l.slot l.sums;
}
