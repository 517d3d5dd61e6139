use Rattle.std.proofs.Common.{◌≡◌, sym, ap, ◌∙◌, subst, arith}
use Rattle.pra_base.specs.declared.code.End.TheVariants.{Return}
use Rattle.vc_build.specs.Grow.{with_end}
use Rattle.vc_build.proofs.Open.{only_open}
use Rattle.vc_order.proofs.Listings.{last_place}
use Rattle.vc_proc.specs.Finished.{IsFinished}
use Rattle.vc_proc.proofs.Ordered.{finished, turned_finished}
use Rattle.vc_proc.proofs.finish.finish.Goals as goal

pub returns : goal.returns
returns c =
    let order = c.in_ok-code.ensures in
    let ids = c.args.order.now in
    let last = c.args.last.0 in
    let last_is = last_place c.args.code c.in_ok-code.code ids order c.requires.listing last
    c.requires.is_last in
    let end : c.in_ok-end.end ≡ order.to last = omega (arith, c.in_ok-end.ensures, last_is) in
    let new_is : c.close.new.code ≡ with_end (order.to last) Return c.in_ok-code.code =
    c.close.ensures ∙ ap (λ n. with_end n Return c.in_ok-code.code) end in
    turned_finished c.args.code last ids c.close.new.code c.take_short_ways.result
    (subst (IsFinished c.args.code last ids) (sym new_is)
    (finished order.to order.from c.args.code c.in_ok-code.code last order.reordered
    c.requires.is_open last_is ids order
    (only_open c.args.code last c.requires.no_other c.requires.is_open)))
    c.take_short_ways.ensures.turned
