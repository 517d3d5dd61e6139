use Rattle.std.proofs.Common.{[], sym}
use Rattle.pra_packed.proofs.Parts.{get_or_parts}
use Rattle.pra_packed.proofs.packed.part.Goals as goal

pub returns : goal.returns
returns g c =
    rw c.begin_of-begin.ensures.is
    (sym (get_or_parts 0 c.args.ends.now c.args.items.now c.args.at [] c.requires.at))
