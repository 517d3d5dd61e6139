use Rattle.net_dual.proofs.Small.{path_is_small, part_is_small}
use Rattle.net_dual.proofs.laws.priced_sums_are_small.Goals as goal

pub returns-clause-path : goal.returns-clause-path
returns-clause-path c = path_is_small

pub returns-clause-part : goal.returns-clause-part
returns-clause-part c = part_is_small
