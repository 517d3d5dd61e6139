use Rattle.net_form.proofs.TakenFlows.{apart_from_nothing, nothing_from_apart, once_together}
use Rattle.net_form.proofs.TakenFlows.{once_apart, takes_more, releases_some, admitted_once}
use Rattle.net_form.proofs.laws.taken_stands_for_flows.Goals as goal

pub returns-clause-apart : goal.returns-clause-apart
returns-clause-apart c =
    λ net taken f g stands. (
      apart_from_nothing net taken f g stands,
      nothing_from_apart net taken f g stands,
    )

pub returns-clause-once : goal.returns-clause-once
returns-clause-once c = λ net f g.
    (once_apart net f g, λ each. once_together net f g each.0 each.1 each.2)

pub returns-clause-takes : goal.returns-clause-takes
returns-clause-takes c = takes_more

pub returns-clause-releases : goal.returns-clause-releases
returns-clause-releases c = releases_some

pub returns-clause-admitted : goal.returns-clause-admitted
returns-clause-admitted c = admitted_once
