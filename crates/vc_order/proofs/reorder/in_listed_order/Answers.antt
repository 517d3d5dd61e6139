use Rattle.std.proofs.Common.{◌≡◌, List, length, ap, ◌∙◌, subst, arith}
use Rattle.pra_base.specs.declared.code.Block.{Block}
use Rattle.vc_order.specs.Order.{IsOrder, blocks_in}
use Rattle.vc_order.proofs.Listings.{in_order}
use Rattle.vc_order.proofs.reorder.in_listed_order.Goals as goal

pub returns : goal.returns
returns c =
    let to = c.in_ok-order.order.to.items in
    let from = c.in_ok-order.order.from.items in
    let many : c.len-blocks.result ≡ length c.args.code.blocks = c.len-blocks.ensures in
    let is : IsOrder (length c.args.code.blocks) to from =
    subst (λ n. IsOrder n to from) many c.in_ok-order.ensures.is in
    let blocks : c.from_vec.result ≡ blocks_in to from c.args.code = c.from_vec.ensures
    ∙ c.in_ok-blocks.ensures in
    in_order to from c.args.code (record c.args.code { blocks = c.from_vec.result }) c.args.ids.now
    is (ap (λ (bs : List Block). record c.args.code { blocks = bs }) blocks) c.requires
    (λ k lt. c.in_ok-order.ensures.listed k (omega (arith, lt, many)))
