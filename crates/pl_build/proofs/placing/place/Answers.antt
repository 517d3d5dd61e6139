use Rattle.std.proofs.Common.{refl, ◌∙◌}
use Rattle.pl_made.proofs.Parts.{behind_of}
use Rattle.pl_made.proofs.Whole.{is_placed}
use Rattle.pl_routed.specs.Routed.{routed}
use Rattle.pl_build.proofs.Blocks.{vars_in}
use Rattle.pl_build.proofs.placing.place.Goals as goal

pub slots_of-requires-clause-vars : goal.slots_of-requires-clause-vars
slots_of-requires-clause-vars c = vars_in c.args.code.now c.args.net.now c.args.routes.now
    c.requires.net c.requires.routes c.requires.admitted c.requires.sized

pub returns-clause-made : goal.returns-clause-made
returns-clause-made c = record {
  id = refl;
  args = refl;
  aggregates = refl;
  vars = c.in_ok-from_slice.ensures ∙ c.as_slice.ensures;
  slots = c.in_ok-slots_of.ensures;
  near_is = c.is_near.ensures;
  count = c.in_ok-place_blocks.ensures.count;
  ends = c.in_ok-place_blocks.ensures.ends;
  lays = c.in_ok-place_blocks.ensures.lays;
}

pub returns-clause-behind : goal.returns-clause-behind
returns-clause-behind c = behind_of (routed c.args.code.now c.args.net.now c.args.routes.now) _
    (returns-clause-made c)

pub returns-clause-placed : goal.returns-clause-placed
returns-clause-placed c = λ valid. is_placed c.args.code.now c.args.net.now c.args.routes.now
    c.requires.net c.requires.routes c.requires.admitted valid c.requires.sized _
    (returns-clause-made c)
