use Rattle.std.proofs.Common.{◌≡◌}
use Rattle.pra_base.proofs.Carried.{until_on}
use Rattle.pra_base.proofs.Simulation.{reaches_until}
use Rattle.pra_base.proofs.laws.simulation_follows_until_stuck.Goals as goal

pub returns-clause-reaches : goal.returns-clause-reaches
returns-clause-reaches c = λ step_a view_a step_b view_b stuck most measure a b is s r.
    reaches_until step_a view_a step_b view_b stuck most measure (λ x y. view_b y ≡ view_a x) is s
    a b r

pub returns-clause-twice : goal.returns-clause-twice
returns-clause-twice c = λ stuck a b d p q. until_on stuck a b d p q
