use Rattle.ia_list.proofs.TextsOnce.{one_answer}
use Rattle.ia_list.proofs.laws.one_answer.Goals as goal

pub returns : goal.returns
returns c = one_answer
