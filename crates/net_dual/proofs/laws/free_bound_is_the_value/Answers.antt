use Rattle.net_dual.proofs.FreeBound.{free_bound}
use Rattle.net_dual.proofs.Duality.{one_lagrange}
use Rattle.net_form.specs.Rooms.{zero_prices}
use Rattle.net_dual.proofs.laws.free_bound_is_the_value.Goals as goal

pub returns-clause-same : goal.returns-clause-same
returns-clause-same c = free_bound

pub returns-clause-value : goal.returns-clause-value
returns-clause-value c = λ net w bound z free value.
    one_lagrange net w (zero_prices net) z _ value ((free_bound net w bound).0 free)
