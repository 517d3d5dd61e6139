use Rattle.vc_build.proofs.Growth.{grows_same, grows_on}
use Rattle.vc_build.proofs.laws.growth_is_an_order.Goals as goal

pub returns-clause-same : goal.returns-clause-same
returns-clause-same c = grows_same

pub returns-clause-on : goal.returns-clause-on
returns-clause-on c = grows_on
