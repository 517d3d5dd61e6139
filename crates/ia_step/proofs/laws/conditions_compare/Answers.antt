use Rattle.ia_step.proofs.Conditions.{holds-diff_flags}
use Rattle.ia_step.proofs.laws.conditions_compare.Goals as goal

pub returns : goal.returns
returns c = λ a b condition fa fb. holds-diff_flags a b fa fb condition
