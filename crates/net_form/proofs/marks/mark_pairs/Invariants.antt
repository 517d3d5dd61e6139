use Rattle.std.proofs.Common.{ℕ, ◌≡◌, ◌-◌, ◌<◌, length, get_or, take, count_by}
use Rattle.net_form.specs.Admitted.{strand_at}
use Rattle.net_form.specs.InUse.{pair_mark, after, in_memory, brings_end}
use Rattle.net_form.proofs.PairUses.{strand_ends}
use Rattle.net_form.proofs.marks.mark_pairs.Given as goal

abbrev pub invariant-loop-at : goal.invariant-loop-at
invariant-loop-at l = record {
  long : length l.mems ≡ length l.initial.mems;
  marks : (k : ℕ) → k < length l.net.pairs → pair_mark l.mems k ≡
      after l.used (pair_mark l.initial.mems k)
      (count_by (brings_end (in_memory l.path (strand_at l.net l.strand).first) k)
      (take (l.at - get_or l.net.index.pairs l.strand 0) (strand_ends l.net l.strand)));
}
