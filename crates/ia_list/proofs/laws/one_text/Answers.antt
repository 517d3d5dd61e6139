use Rattle.ia_list.proofs.TextsOnce.{one_text, one_stop, text_or_stop}
use Rattle.ia_list.proofs.laws.one_text.Goals as goal

pub returns-clause-text : goal.returns-clause-text
returns-clause-text c = one_text

pub returns-clause-place : goal.returns-clause-place
returns-clause-place c = one_stop

pub returns-clause-not_both : goal.returns-clause-not_both
returns-clause-not_both c = text_or_stop
