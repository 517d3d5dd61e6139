use Rattle.std.proofs.Common.{◌≡◌, ◌<◌, length, refl, sym, ap, ◌∙◌, subst, arith}
use Rattle.std.specs.List.{swap}
use Rattle.std.proofs.lemmas.List.Sorted.{IsPermutation-swap}
use Rattle.vc_order.specs.Order.{IsOrder, place_in}
use Rattle.vc_order.proofs.Orders as orders
use Rattle.vc_order.proofs.order.exchange.Goals as goal

pub returns-clause-is : goal.returns-clause-is
returns-clause-is c =
    let order = c.requires.is in
    let to = c.args.order.now.to.items in
    let from = c.args.order.now.from.items in
    let long = order.blocks in
    let lc : c.args.c < length from = omega (arith, c.requires.first_within, long) in
    let ld : c.args.d < length from = omega (arith, c.requires.second_within, long) in
    let is = orders.exchanged (length to) to from order c.args.c c.args.d c.requires.first
    c.requires.second c.requires.first_within c.requires.second_within
    (IsPermutation-swap from (swap from c.args.c c.args.d) c.args.c c.args.d lc ld refl) in
    let at : c.swap-2.new.self.items ≡ swap to (place_in from c.args.c) (place_in from c.args.d) =
    c.swap-2.ensures.items ∙ ap (λ z. swap to z c.block_at-b.result) c.block_at-a.ensures.is
    ∙ ap (swap to (place_in from c.args.c)) c.block_at-b.ensures.is in
    subst (λ z. IsOrder (length to) z c.swap.new.self.items) (sym at)
    (subst (λ z. IsOrder (length to) (swap to (place_in from c.args.c) (place_in from c.args.d))
    z) (sym c.swap.ensures.items) is)

pub returns-clause-swapped : goal.returns-clause-swapped
returns-clause-swapped c = c.swap.ensures.items
