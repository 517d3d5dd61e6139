use Rattle.net_path.specs.Ways.{start_price}
use Rattle.net_path.specs.Choices.{IsBestChoice}
use Rattle.net_path.proofs.path.best_start.Given as goal

abbrev pub invariant-loop-number : goal.invariant-loop-number
invariant-loop-number g l = IsBestChoice (start_price l.ways l.constant) l.row.costs l.number l.best
