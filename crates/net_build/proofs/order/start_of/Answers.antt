use Rattle.std.proofs.Common.{◌<◌, length, ap, arith}
use Rattle.std.proofs.lemmas.List.{get_or_read}
use Rattle.net_form.specs.declared.net.Strand.{Strand}
use Rattle.net_build.proofs.Places.{starts_here}
use Rattle.net_build.proofs.order.start_of.Goals as goal

pub returns-then-index-block : goal.returns-then-index-block
returns-then-index-block c =
    let ss = c.args.strands.now in
    let at = c.loop-at.at in
    let inv = c.loop-at.invariant in
    let lt : at < length ss = omega (arith, c.loop-at-test.true, inv.count) in
    starts_here ss c.args.block at c.requires.order inv.within inv.before (λ d _.
    let here = ap (λ (u : Strand). u.block.0)
    (get_or_read ss at c.index.result.now lt c.index.ensures d) in
    omega (arith, here, c.if-index-block.true))
