use Rattle.std.proofs.Common.{◌≡◌, ◌<◌, ℕ, length}
use Rattle.vc_order.specs.Order.{IsOrder, number_at, place_in}
use Rattle.vc_order.proofs.order.listed_order.Given as goal

-- the first blocks of the list are in their places
abbrev pub invariant-loop-c : goal.invariant-loop-c
invariant-loop-c l =
    IsOrder l.count l.order.to.items l.order.from.items × (length l.order.to.items ≡ l.count)
    × ((k : ℕ) → k < l.c → place_in l.order.from.items k ≡ number_at l.ids k)
