use Rattle.vc_relation.proofs.Apart.{own_spots}
use Rattle.vc_relation.proofs.laws.locations_have_spots_of_their_own.Goals as goal

pub returns : goal.returns
returns c = λ program frames calls l m x y laid e d s r same. own_spots program frames calls laid l
    m x y e d s r same
