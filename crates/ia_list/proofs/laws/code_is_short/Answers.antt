use Rattle.ia_list.proofs.TextsOnce.{code_short}
use Rattle.ia_list.proofs.laws.code_is_short.Goals as goal

pub returns : goal.returns
returns c = code_short
