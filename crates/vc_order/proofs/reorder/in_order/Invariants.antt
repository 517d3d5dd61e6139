use Rattle.std.proofs.Common.{◌≡◌, map, take}
use Rattle.pra_base.specs.Code.{block_of}
use Rattle.vc_order.specs.Order.{block_with, place_in}
use Rattle.vc_order.proofs.reorder.in_order.Given as goal

abbrev pub invariant-loop-c : goal.invariant-loop-c
invariant-loop-c l = l.blocks.items ≡
    map (λ b. block_with (place_in l.order.to.items) (block_of l.code b))
    (take l.c l.order.from.items)
