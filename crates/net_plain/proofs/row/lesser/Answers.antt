use Rattle.std.proofs.Common.{subst, ◌∙◌, arith}
use Rattle.std.proofs.lemmas.Int.{ints}
use Rattle.net_dual.specs.Leasts.{IsLeastOf}
use Rattle.net_dual.proofs.Leasts.{lower_more}
use Rattle.net_plain.proofs.row.lesser.Goals as goal

pub returns-then-more-cost : goal.returns-then-more-cost
returns-then-more-cost c = λ f n least at.
    lower_more f n c.in-Some.cost c.in-Some-other.more
    (subst (IsLeastOf f n) c.in-Some.is least) (at ∙ c.in-Some-other.is) (omega (arith, ints))
