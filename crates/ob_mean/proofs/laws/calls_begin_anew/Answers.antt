use Rattle.ob_mean.proofs.Stores.{entered-param, entered-local, entered-other}
use Rattle.ob_mean.proofs.laws.calls_begin_anew.Goals as goal

pub returns-clause-params : goal.returns-clause-params
returns-clause-params c = entered-param

pub returns-clause-locals : goal.returns-clause-locals
returns-clause-locals c = entered-local

pub returns-clause-others : goal.returns-clause-others
returns-clause-others c = entered-other
