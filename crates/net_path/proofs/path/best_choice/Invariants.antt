use Rattle.net_path.specs.Leaving.{leaving_price}
use Rattle.net_path.specs.Choices.{IsBestChoice}
use Rattle.net_path.proofs.path.best_choice.Given as goal

abbrev pub invariant-loop-number : goal.invariant-loop-number
invariant-loop-number g l =
    IsBestChoice (leaving_price l.leaving) l.row.costs l.number l.best
