use Rattle.vc_typed.proofs.BodyNodes.{module_nodes}
use Rattle.vc_typed.proofs.laws.bodies_have_their_nodes.Goals as goal

pub returns : goal.returns
returns c = module_nodes
