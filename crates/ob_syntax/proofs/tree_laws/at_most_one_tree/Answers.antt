use Rattle.ob_syntax.proofs.OneTree.{one_tree, one_source}
use Rattle.ob_syntax.proofs.tree_laws.at_most_one_tree.Goals as goal

pub returns : goal.returns
returns c = record { phrase = one_tree; source = one_source }
