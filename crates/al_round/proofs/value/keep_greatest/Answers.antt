use Rattle.std.proofs.Common.{◌≡◌, ◌≤ℤ◌, ◌<ℤ◌, ◌++◌, ◌∷◌, [], suc, sym, subst, ◌∙◌, arith}
use Rattle.std.proofs.Common.{to_z, of_z}
use Rattle.std.specs.Int.{w128}
use Rattle.std.proofs.lemmas.Int.{ints, to_z-of_z}
use Rattle.al_round.specs.Stages.{IsGreatest}
use Rattle.al_round.proofs.Grown.{greatest_kept, greatest_new, greatest_raised}
use Rattle.al_round.proofs.value.keep_greatest.Goals as goal

pub returns-then-raised_value-greater_of-clause-greatest : goal.returns-then-raised_value-greater_of-clause-greatest
returns-then-raised_value-greater_of-clause-greatest c =
    λ stages t k long prices value raised raised_value rise g.
    let whole : to_z w128 (of_z w128 c.args.raised_value) ≡ c.args.raised_value
    = to_z-of_z w128 c.args.raised_value c.ranges.raised_value in
    let test = c.if-raised_value-greater_of.true in
    let one = c.greater_of.ensures.one in
    let other = c.greater_of.ensures.other in
    let new : t.value ≤ℤ t.raised_value = grind (arith, ints) in
    let above : c.args.best_value.now ≤ℤ t.raised_value = grind (arith, ints) in
    subst (λ p. IsGreatest (stages ++ t ∷ []) (suc k) p
    (to_z w128 (of_z w128 c.args.raised_value)))
    (raised ∙ sym c.overwrite_prices.ensures)
    (subst (λ v. IsGreatest (stages ++ t ∷ []) (suc k) t.raised v) (raised_value ∙ sym whole)
    (greatest_raised stages t k c.args.best_prices.now c.args.best_value.now long g above new))

pub returns-then-value-best_value-clause-greatest :
    goal.returns-then-value-best_value-clause-greatest
returns-then-value-best_value-clause-greatest c =
    λ stages t k long prices value raised raised_value rise g.
    let whole : to_z w128 (of_z w128 c.args.value) ≡ c.args.value
    = to_z-of_z w128 c.args.value c.ranges.value in
    let test = c.if-value-best_value.true in
    let under = c.if-raised_value-greater_of.false in
    let greater : c.args.best_value.now <ℤ t.value = grind (arith, ints) in
    let top = c.greater_of.ensures.least c.args.value (omega (arith, ints))
    (grind (arith, ints)) in
    let no_raised : t.raised_value ≤ℤ t.value = grind (arith, ints) in
    subst (λ p. IsGreatest (stages ++ t ∷ []) (suc k) p (to_z w128 (of_z w128 c.args.value)))
    (prices ∙ sym c.overwrite_prices-then-value-best_value.ensures)
    (subst (λ v. IsGreatest (stages ++ t ∷ []) (suc k) t.prices v) (value ∙ sym whole)
    (greatest_new stages t k c.args.best_prices.now c.args.best_value.now long g greater
    no_raised))

pub returns-else-value-best_value-clause-greatest :
    goal.returns-else-value-best_value-clause-greatest
returns-else-value-best_value-clause-greatest c =
    λ stages t k long prices value raised raised_value rise g.
    let test = c.if-value-best_value.false in
    let under = c.if-raised_value-greater_of.false in
    let less : t.value ≤ℤ c.args.best_value.now = grind (arith, ints) in
    let top = c.greater_of.ensures.least c.args.best_value.now (grind (arith, ints))
    (omega (arith, ints)) in
    let below : t.raised_value <ℤ c.args.best_value.now = grind (arith, ints) in
    greatest_kept stages t k c.args.best_prices.now c.args.best_value.now long g less below rise
