use Rattle.std.proofs.Common.{sym, ap}
use Rattle.ia_step.specs.Run.{Ran}
use Rattle.ia_step.proofs.Runs.{joined}
use Rattle.ia_step.proofs.laws.runs_join.Goals as goal

pub returns-clause-state : goal.returns-clause-state
returns-clause-state c = λ s m n. ap (λ (r : Ran). r.state) (sym (joined s m n))

pub returns-clause-events : goal.returns-clause-events
returns-clause-events c = λ s m n. ap (λ (r : Ran). r.events) (sym (joined s m n))

pub returns-clause-steps : goal.returns-clause-steps
returns-clause-steps c = λ s m n. ap (λ (r : Ran). r.steps) (sym (joined s m n))
