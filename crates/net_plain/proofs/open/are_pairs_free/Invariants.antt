use Rattle.std.proofs.Common.{◌≡◌, ◌<◌, ◌&&◌, ℕ, false, None, get_or}
use Rattle.net_form.specs.Admitted.{uses_memory}
use Rattle.net_form.specs.InUse.{pair_at}
use Rattle.net_path.specs.Grounds.{edge}
use Rattle.net_plain.proofs.open.are_pairs_free.Given as goal

abbrev pub invariant-loop-pair : goal.invariant-loop-pair
invariant-loop-pair l = (k : ℕ) → k < l.pair →
    (uses_memory (pair_at l.net k) (edge l.spot.strand l.spot.layer None l.place)
    && get_or l.taken.mems k false) ≡ false
