use Rattle.std.proofs.Common.{ℕ, ◌≡◌, ◌<◌, length, get_or}
use Rattle.net_form.specs.Admitted.{uses_memory}
use Rattle.net_form.specs.InUse.{pair_at}
use Rattle.net_price.specs.Raised.{raised, AreWords}
use Rattle.net_price.proofs.Raised.{left}
use Rattle.net_price.proofs.mems.raise_mems.Given as goal

abbrev pub invariant-loop-strand : goal.invariant-loop-strand
invariant-loop-strand l = record {
  long : length l.mems ≡ length l.initial.mems;
  words : AreWords l.mems;
  raised : (k : ℕ) → k < length l.initial.mems →
      raised l.s (get_or l.mems k 0)
      (left (uses_memory (pair_at l.net k)) l.net l.family l.strand)
      ≡ raised l.s (get_or l.initial.mems k 0)
      (left (uses_memory (pair_at l.net k)) l.net l.family 0);
}
