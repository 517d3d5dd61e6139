use Rattle.std.proofs.Common.{ℕ, ◌≡◌, ◌-◌, ◌<◌, length, get_or, drop, count_by}
use Rattle.net_form.specs.Admitted.{strand_at}
use Rattle.net_form.specs.InUse.{in_memory, brings_end}
use Rattle.net_form.proofs.PairUses.{strand_ends}
use Rattle.net_price.specs.Raised.{raised, AreWords}
use Rattle.net_price.proofs.mems.raise_ends.Given as goal

abbrev pub invariant-loop-at : goal.invariant-loop-at
invariant-loop-at l =
    let ends = strand_ends l.net l.strand in
    let first = (strand_at l.net l.strand).first in record {
      long : length l.mems ≡ length l.initial.mems;
      words : AreWords l.mems;
      raised : (k : ℕ) → k < length l.initial.mems →
          raised l.s (get_or l.mems k 0)
          (count_by (brings_end (in_memory l.path first) k)
          (drop (l.at - get_or l.net.index.pairs l.strand 0) ends))
          ≡ raised l.s (get_or l.initial.mems k 0)
          (count_by (brings_end (in_memory l.path first) k) ends);
    }
