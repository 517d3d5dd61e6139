use Rattle.pra_base.proofs.Depth.{block_rules}
use Rattle.pra_base.proofs.laws.rules_know_no_depth.Goals as goal

pub returns : goal.returns
returns c = λ aggregates one other same r. block_rules one other same aggregates r
