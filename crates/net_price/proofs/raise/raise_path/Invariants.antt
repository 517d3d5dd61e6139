use Rattle.std.proofs.Common.{ℕ, ◌≡◌, ◌≤◌, ◌<◌, ◌+◌, ◌-◌, length, get_or, None}
use Rattle.net_form.specs.Admitted.{strand_at}
use Rattle.net_form.specs.Index.{first_layer}
use Rattle.net_price.specs.Raised.{raised, AreWords}
use Rattle.net_price.proofs.Raised.{uses}
use Rattle.net_price.proofs.raise.raise_path.Given as goal

abbrev pub invariant-loop-rest : goal.invariant-loop-rest
invariant-loop-rest l =
    let net = l.net in
    let first = (strand_at net l.strand).first in
    let base = first_layer net.blocks (strand_at net l.strand).block.0 in record {
      long : length l.caps ≡ length l.initial.caps;
      words : AreWords l.caps;
      begun : base ≤ l.layer;
      layer : l.layer + length l.rest ≡ base + first + length l.path;
      raised : (k : ℕ) → k < length l.initial.caps →
          raised l.s (get_or l.caps k 0) (uses net k l.strand (l.layer - base) None l.rest)
          ≡ raised l.s (get_or l.initial.caps k 0) (uses net k l.strand first None l.path);
    }

abbrev pub decreases-loop-rest : goal.decreases-loop-rest
decreases-loop-rest l = length l.rest
