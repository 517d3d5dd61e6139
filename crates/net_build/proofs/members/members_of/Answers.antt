use Rattle.std.proofs.Common.{ap, ◌∙◌, map, arith}
use Rattle.net_form.specs.Index.{Member}
use Rattle.net_build.proofs.MemberLists.{pushed, members_all}
use Rattle.net_build.proofs.members.members_of.Goals as goal

pub loop-number-preserved : goal.loop-number-preserved
loop-number-preserved c = record {
  owners = pushed (λ (m : Member). m.group) c.args.strands.now c.loop-number.number
      c.index-strand.result.now c.loop-number.made.owners c.add_member.new.made.owners
      c.add_member-in-loop-number.new.made.owners
      (omega arith) c.index-strand.ensures c.loop-number.invariant.owners
      c.in_ok-add_member.ensures.owners c.in_ok-add_member-2.ensures.owners;
  ends = pushed (λ (m : Member). m.at) c.args.strands.now c.loop-number.number
      c.index-strand.result.now c.loop-number.made.ends c.add_member.new.made.ends
      c.add_member-in-loop-number.new.made.ends
      (omega arith) c.index-strand.ensures c.loop-number.invariant.ends
      c.in_ok-add_member.ensures.ends c.in_ok-add_member-2.ensures.ends;
}

pub returns-clause-owners : goal.returns-clause-owners
returns-clause-owners c = c.loop-number.invariant.owners ∙ ap (map (λ (m : Member). m.group))
    (members_all c.args.strands.now c.loop-number.number (omega arith))

pub returns-clause-ends : goal.returns-clause-ends
returns-clause-ends c = c.loop-number.invariant.ends ∙ ap (map (λ (m : Member). m.at))
    (members_all c.args.strands.now c.loop-number.number (omega arith))
