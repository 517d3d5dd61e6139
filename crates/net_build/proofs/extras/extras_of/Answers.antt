use Rattle.std.proofs.Common.{subst, sym, map, arith}
use Rattle.net_form.specs.Formed.{IsStrandOf}
use Rattle.net_form.specs.Network.{net_block}
use Rattle.net_build.proofs.Sizes.{small_strand}
use Rattle.net_build.proofs.extras.extras_of.Goals as goal

pub add_strand-requires-clause-few : goal.add_strand-requires-clause-few
add_strand-requires-clause-few c =
    let t = c.index.result.now in
    small_strand c.args.code.now t c.requires.sized
    (subst (IsStrandOf (map net_block c.args.code.now.blocks)) (sym c.index.ensures)
    (c.requires.strands c.loop-number.number t (omega arith)))
