use Rattle.net_path.specs.Ways.{IsLeastAmong}
use Rattle.net_path.proofs.crossbar.least_of_six.Given as goal

abbrev pub invariant-loop-k : goal.invariant-loop-k
invariant-loop-k g l = IsLeastAmong l.row.costs l.from l.k l.least.cost
