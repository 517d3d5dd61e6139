use Rattle.ob_mean.proofs.Budgets.{mean_keeps}
use Rattle.ob_mean.proofs.laws.greater_budget_keeps.Goals as goal

pub returns : goal.returns
returns c = λ program frames input. mean_keeps program frames input
