use Rattle.std.proofs.Common.{sym, subst}
use Rattle.net_form.specs.Flow.{flow}
use Rattle.net_dual.specs.Priced.{AreInRange}
use Rattle.net_dual.specs.Step.{step_of, IsNext}
use Rattle.net_dual.proofs.Ranges.{next_in_range}
use Rattle.al_round.proofs.trying.step_prices.Goals as goal

pub returns-clause-range : goal.returns-clause-range
returns-clause-range c =
    let net = c.args.net.now in
    let family = c.args.family.now in
    let next : IsNext net family c.args.k c.args.prices.now c.step.new.prices
    = subst (λ p. IsNext net family c.args.k p c.step.new.prices) c.overwrite_prices.ensures
    c.step.ensures in
    subst (AreInRange net) (sym next)
    (next_in_range net (flow net family) (step_of c.args.k) c.args.prices.now c.requires.prices)
