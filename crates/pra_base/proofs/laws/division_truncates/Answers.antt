use Rattle.pra_base.proofs.Division.{words_truncated}
use Rattle.pra_base.proofs.laws.division_truncates.Goals as goal

pub returns : goal.returns
returns c = λ x d fx fd up. words_truncated x d fx fd up
