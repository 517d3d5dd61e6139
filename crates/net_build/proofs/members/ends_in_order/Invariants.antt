use Rattle.std.proofs.Common.{◌≡◌, map, take}
use Rattle.net_build.specs.Owners.{end_at}
use Rattle.net_build.proofs.members.ends_in_order.Given as goal

abbrev pub invariant-loop-item : goal.invariant-loop-item
invariant-loop-item l = l.made ≡ map (end_at l.ends) (take l.item-index l.order)
