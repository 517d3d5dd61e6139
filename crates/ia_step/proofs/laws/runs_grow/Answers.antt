use Rattle.ia_step.proofs.Runs.{events_grow, steps_grow, steps_most, steps_all}
use Rattle.ia_step.proofs.laws.runs_grow.Goals as goal

pub returns-clause-events : goal.returns-clause-events
returns-clause-events c = events_grow

pub returns-clause-steps : goal.returns-clause-steps
returns-clause-steps c = steps_grow

pub returns-clause-most : goal.returns-clause-most
returns-clause-most c = steps_most

pub returns-clause-all : goal.returns-clause-all
returns-clause-all c = steps_all
