use Rattle.std.proofs.Common.{◌-◌, ◌≡◌, length, get_or, take}
use Rattle.net_form.specs.Admitted.{strand_at}
use Rattle.net_path.specs.Ends.{AreMemoryRows, strand_ends}
use Rattle.net_path.proofs.pairs.pay_pairs.Given as goal

abbrev pub invariant-loop-at : goal.invariant-loop-at
invariant-loop-at l = record {
  long : length l.rows ≡ length l.initial.rows;
  paid : AreMemoryRows l.prices l.taken (strand_at l.net l.strand).first
      (take (l.at - get_or l.net.index.pairs l.strand 0) (strand_ends l.net l.strand))
      l.initial.rows l.rows;
}
