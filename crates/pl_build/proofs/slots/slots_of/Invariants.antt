use Rattle.std.proofs.Common.{◌≡◌, map, filter}
use Rattle.std.specs.List.{range_with_len}
use Rattle.pl_place.specs.Behind.{has_slot}
use Rattle.pl_routed.specs.Routed.{routed}
use Rattle.pl_build.proofs.slots.slots_of.Given as goal

abbrev pub invariant-loop-v : goal.invariant-loop-v
invariant-loop-v l = map (λ u. u.0) l.slots ≡ filter (has_slot (routed l.code l.net l.routes))
    (range_with_len 0 l.v)
