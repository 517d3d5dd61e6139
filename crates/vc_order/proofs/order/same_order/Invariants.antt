use Rattle.std.proofs.Common.{◌≡◌}
use Rattle.std.specs.List.{range_with_len}
use Rattle.vc_order.proofs.order.same_order.Given as goal

abbrev pub invariant-loop-b : goal.invariant-loop-b
invariant-loop-b l = (l.to.items ≡ range_with_len 0 l.b) × (l.from.items ≡ range_with_len 0 l.b)
