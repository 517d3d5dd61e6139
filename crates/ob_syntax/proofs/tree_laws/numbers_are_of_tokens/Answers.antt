use Rattle.ob_syntax.proofs.NumbersInTrees.{numbered}
use Rattle.ob_syntax.proofs.tree_laws.numbers_are_of_tokens.Goals as goal

pub returns : goal.returns
returns c = numbered
