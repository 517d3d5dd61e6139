use Rattle.std.proofs.Common.{[], ◌∷◌, length, sym, subst, ap, ◌∙◌, arith}
use Rattle.std.proofs.lemmas.List.{length-append}
use Rattle.net_build.specs.Order.{AreStarts, StartsAt}
use Rattle.net_build.proofs.Places.{starts_pushed}
use Rattle.net_build.proofs.order.starts_of.Goals as goal

pub loop-block-preserved : goal.loop-block-preserved
loop-block-preserved c =
    let ss = c.args.strands.now in
    let old = c.loop-block.starts in
    let at = c.start_of-from.result in
    let new = c.in_ok-push.ensures.ok in
    let inv = c.loop-block.invariant in
    let long = ap length new ∙ length-append old (at ∷ []) in
    let before = c.start_of-from.ensures.before in
    record {
      count = omega (arith, long, inv.count);
      starts = subst (AreStarts ss) (sym new)
          (starts_pushed ss old at inv.starts
          (subst (λ n. StartsAt ss n at) (sym inv.count) c.start_of-from.ensures));
      from = c.start_of-from.ensures.within;
      before = λ k d lt. let b = before k d lt in omega (arith, b);
    }
