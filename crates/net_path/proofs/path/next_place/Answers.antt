use Rattle.net_path.proofs.Following.{place_of_best}
use Rattle.net_path.proofs.path.next_place.Goals as goal

pub returns-clause-crossbar : goal.returns-clause-crossbar
returns-clause-crossbar c = λ odd. place_of_best _ _ _ c.chosen.ensures
