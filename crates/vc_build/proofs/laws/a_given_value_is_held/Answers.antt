use Rattle.vc_build.proofs.Steps.{gives}
use Rattle.vc_build.proofs.laws.a_given_value_is_held.Goals as goal

pub returns : goal.returns
returns c = λ w id at v n code i x s o stands r writes acts le kind declared. gives w id at code s o
    stands i r v n x writes acts le kind declared
