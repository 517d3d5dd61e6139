use Rattle.std.proofs.Common.{◌≡◌, map}
use Rattle.net_form.specs.Index.{Member}
use Rattle.net_build.proofs.MemberLists.{members_below}
use Rattle.net_build.proofs.members.members_of.Given as goal

abbrev pub invariant-loop-number : goal.invariant-loop-number
invariant-loop-number l = record {
  owners : l.made.owners ≡ map (λ (m : Member). m.group) (members_below l.strands l.number);
  ends : l.made.ends ≡ map (λ (m : Member). m.at) (members_below l.strands l.number);
}
