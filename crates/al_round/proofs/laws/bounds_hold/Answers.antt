use Rattle.net_form.specs.Cost.{cost_of}
use Rattle.net_dual.proofs.Duality.{duality_of_weights}
use Rattle.al_round.proofs.Bounds.{rounded_below, bound_holds}
use Rattle.al_round.proofs.laws.bounds_hold.Goals as goal

pub returns-clause-value : goal.returns-clause-value
returns-clause-value c = λ net w prices family z b f formed range value up a.
    rounded_below z b (cost_of net w f) up
    (duality_of_weights net w prices z f formed range (record { family = family; value = value }) a)

pub returns-clause-best : goal.returns-clause-best
returns-clause-best c = λ net w stages k prices b f formed are best a.
    bound_holds net w stages are k prices b best formed f a
