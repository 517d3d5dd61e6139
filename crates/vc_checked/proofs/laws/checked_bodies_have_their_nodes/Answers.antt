use Rattle.std.proofs.Common.{sym, subst}
use Rattle.vc_typed.specs.Nodes.{HaveTheirNodes}
use Rattle.vc_typed.proofs.BodyNodes.{module_nodes}
use Rattle.vc_checked.proofs.laws.checked_bodies_have_their_nodes.Goals as goal

pub returns : goal.returns
returns c = λ bytes tokens m checked parsed is. subst HaveTheirNodes (sym is.checked_is)
    (module_nodes bytes tokens m is.reading parsed is.well_formed)
