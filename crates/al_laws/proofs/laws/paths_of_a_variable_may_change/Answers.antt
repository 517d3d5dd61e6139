use Rattle.al_laws.proofs.Variable.{variable_put}
use Rattle.al_laws.proofs.laws.paths_of_a_variable_may_change.Goals as goal

pub returns : goal.returns
returns c = λ net routes new v p built has a goes agree may.
    variable_put net built v routes new has goes agree p a (λ s lt is. (may s lt is).has_ends)
    (λ s lt is. (may s lt is).path) (λ s lt is. (may s lt is).is_clear)
