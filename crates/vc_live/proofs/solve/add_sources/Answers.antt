use Rattle.pra_base.specs.Code.{IsTarget}
use Rattle.vc_live.proofs.Sources.{added_as, added_both, added_none}
use Rattle.vc_live.proofs.solve.add_sources.Goals as goal

pub add_source-requires : goal.add_source-requires
add_source-requires c = rw c.in-Jump.is at c.requires

pub add_source-requires-in-Branch : goal.add_source-requires-in-Branch
add_source-requires-in-Branch c = (rw c.in-Branch.is at c.requires).0

pub add_source-requires-in-Branch-2 : goal.add_source-requires-in-Branch-2
add_source-requires-in-Branch-2 c =
    rw c.in_ok-add_source-in-Branch.ensures.count (rw c.in-Branch.is at c.requires).1

pub returns-in_ok-add_source-in-Jump : goal.returns-in_ok-add_source-in-Jump
returns-in_ok-add_source-in-Jump c = added_as c.args.sources.now.items _ c.args.block _
    (IsTarget c.args.end.now)
    c.in_ok-add_source-in-Jump.ensures (λ t target. rw c.in-Jump.is at target)

pub returns-in_ok-add_source-in-Branch-2 : goal.returns-in_ok-add_source-in-Branch-2
returns-in_ok-add_source-in-Branch-2 c = added_as c.args.sources.now.items _ c.args.block _
    (IsTarget c.args.end.now)
    (added_both c.args.sources.now.items _ _ c.args.block _ _
    c.in_ok-add_source-in-Branch.ensures c.in_ok-add_source-in-Branch-2.ensures)
    (λ t target. rw c.in-Branch.is at target)

pub returns-in-Return : goal.returns-in-Return
returns-in-Return c = added_as c.args.sources.now.items _ c.args.block _ (IsTarget c.args.end.now)
    (added_none c.args.sources.now.items c.args.block) (λ t target. rw c.in-Return.is at target)
