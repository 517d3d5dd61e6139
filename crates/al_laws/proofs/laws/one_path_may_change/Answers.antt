use Rattle.al_laws.proofs.OneStrand.{path_put}
use Rattle.al_laws.proofs.laws.one_path_may_change.Goals as goal

pub returns : goal.returns
returns c = λ net routes s ps built has a lt goes.
    path_put net built.formed routes has s lt ps goes.path goes.has_ends built a goes.is_clear
