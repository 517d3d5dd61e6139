use Rattle.ob_syntax.specs.Whole.{kinds}
use Rattle.ob_first.proofs.OneIsTold.{one_told, none_broken, at_a_token}
use Rattle.ob_first.proofs.laws.one_is_told.Goals as goal

pub returns-clause-first : goal.returns-clause-first
returns-clause-first c = λ bytes tokens m derives. one_told bytes tokens m (kinds tokens) derives

pub returns-clause-none : goal.returns-clause-none
returns-clause-none c = λ bytes tokens m derives. none_broken bytes tokens m (kinds tokens) derives

pub returns-clause-within : goal.returns-clause-within
returns-clause-within c = λ bytes tokens m derives. at_a_token bytes tokens m (kinds tokens) derives
