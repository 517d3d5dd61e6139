use Rattle.ob_parse.proofs.TreeOrRefusal.{tree_or_refusal}
use Rattle.ob_parse.proofs.laws.tree_or_refusal.Goals as goal

pub returns : goal.returns
returns c = tree_or_refusal
