use Rattle.ob_read.proofs.FirstRule.{told_is_first, rule_is_told}
use Rattle.ob_read.proofs.laws.told_rule_is_first.Goals as goal

pub returns : goal.returns
returns c = λ bytes rule token at.
    (told_is_first bytes rule token at, rule_is_told bytes rule token at)
