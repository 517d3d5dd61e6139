use Rattle.vc_typed.proofs.SampleIsSelectable.{sample_selectable, sample_nodes}
use Rattle.vc_typed.proofs.laws.a_sample_is_selectable.Goals as goal

pub returns-clause-selectable : goal.returns-clause-selectable
returns-clause-selectable c = sample_selectable

pub returns-clause-nodes : goal.returns-clause-nodes
returns-clause-nodes c = sample_nodes
