use Rattle.pra_base.specs.Places.{place_at}
use Rattle.net_cost.specs.Models.{weights_of}
use Rattle.net_dual.specs.Leasts.{IsLeastOf, cost_at}
use Rattle.net_plain.specs.Rows.{coming}
use Rattle.net_plain.proofs.steps.least_from.Given as goal

abbrev pub invariant-loop-at : goal.invariant-loop-at
invariant-loop-at g l = IsLeastOf
    (λ k. coming l.net (weights_of l.model) l.spot.strand l.spot.layer l.from (place_at k)
    (cost_at l.row k)) l.at l.least
