use Rattle.std.proofs.Common.{All, map, length, subst, sym, ap, arith}
use Rattle.net_form.specs.Formed.{IsStrandOf}
use Rattle.net_form.specs.Network.{net_block}
use Rattle.net_form.specs.Tables.{all_tables}
use Rattle.net_form.proofs.NetworkFormed.{few_strands, strands_are_formed}
use Rattle.vc_live.specs.Rows.{live_at}
use Rattle.net_build.specs.Order.{AreInOrder}
use Rattle.net_build.proofs.InOrder.{strands_in_order}
use Rattle.net_build.proofs.LiveAt.{is_live}
use Rattle.net_build.proofs.lists.lists_of.Goals as goal

pub strands_of-requires-clause-live : goal.strands_of-requires-clause-live
strands_of-requires-clause-live c = is_live c.args.code.now c.args.live.now c.requires.live

pub extras_of-requires-clause-few : goal.extras_of-requires-clause-few
extras_of-requires-clause-few c =
    let same = ap length c.in_ok-strands.ensures in
    let few = few_strands all_tables c.args.code.now (live_at c.args.live.now) c.requires.sized in
    omega (arith, same, few)

pub pairs_of-requires-clause-few : goal.pairs_of-requires-clause-few
pairs_of-requires-clause-few c =
    let same = ap length c.in_ok-strands.ensures in
    let few = few_strands all_tables c.args.code.now (live_at c.args.live.now) c.requires.sized in
    omega (arith, same, few)

pub ties_of-requires-clause-few : goal.ties_of-requires-clause-few
ties_of-requires-clause-few c =
    let same = ap length c.in_ok-strands.ensures in
    let few = few_strands all_tables c.args.code.now (live_at c.args.live.now) c.requires.sized in
    omega (arith, same, few)

pub extras_of-requires-clause-strands : goal.extras_of-requires-clause-strands
extras_of-requires-clause-strands c =
    subst (All (IsStrandOf (map net_block c.args.code.now.blocks))) (sym c.in_ok-strands.ensures)
    (strands_are_formed all_tables c.args.code.now (live_at c.args.live.now))

pub ties_of-requires-clause-strands : goal.ties_of-requires-clause-strands
ties_of-requires-clause-strands c =
    subst (All (IsStrandOf (map net_block c.args.code.now.blocks))) (sym c.in_ok-strands.ensures)
    (strands_are_formed all_tables c.args.code.now (live_at c.args.live.now))

pub ties_of-requires-clause-order : goal.ties_of-requires-clause-order
ties_of-requires-clause-order c = subst AreInOrder (sym c.in_ok-strands.ensures)
    (strands_in_order c.args.code.now (live_at c.args.live.now))
