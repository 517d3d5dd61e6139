use Rattle.std.proofs.Common.{ℕ, ◌≡◌, ◌<◌, length, get_or}
use Rattle.net_form.specs.Bundles.{comes_to_bundle}
use Rattle.net_price.specs.Raised.{raised, AreWords}
use Rattle.net_price.proofs.Raised.{left}
use Rattle.net_price.proofs.raise.raise_caps.Given as goal

abbrev pub invariant-loop-strand : goal.invariant-loop-strand
invariant-loop-strand l = record {
  long : length l.caps ≡ length l.initial.caps;
  words : AreWords l.caps;
  raised : (k : ℕ) → k < length l.initial.caps →
      raised l.s (get_or l.caps k 0) (left (comes_to_bundle l.net k) l.net l.family l.strand)
      ≡ raised l.s (get_or l.initial.caps k 0) (left (comes_to_bundle l.net k) l.net l.family 0);
}
