use Rattle.std.proofs.Common.{ℕ, ◌≡◌, ◌∙◌, true, ℤ, pos, length-set, to_z, of_z, w64, sym, subst}
use Rattle.std.proofs.Common.{arith}
use Rattle.std.proofs.lemmas.Int.{to_z-of_z}
use Rattle.pra_base.specs.declared.ids.Place.{Place}
use Rattle.pra_base.specs.Places.{number}
use Rattle.net_cost.specs.Models.{weights_of}
use Rattle.al_edge.specs.Totals.{opened}
use Rattle.al_edge.specs.Weighed.{IsCostAt}
use Rattle.al_edge.proofs.Filled.{filled}
use Rattle.al_edge.proofs.weights.costs_by_place.Goals as goal

pub cost_if_open-cost-requires-clause-place : goal.cost_if_open-cost-requires-clause-place
cost_if_open-cost-requires-clause-place g c = λ o.
    c.requires.opens c.place_of-place.result
    (subst (λ (n : ℕ). opened c.args.opens.now n ≡ true) (sym c.place_of-place.ensures) o)

pub loop-number-preserved : goal.loop-number-preserved
loop-number-preserved g c =
    let net = c.args.net.now in
    let w = weights_of c.args.model.now in
    let opens = c.args.opens.now in
    let cost = c.cost_if_open-cost.result in
    let whole : to_z w64 (of_z w64 cost) ≡ cost
    = to_z-of_z w64 cost (record { sfits = c.cost_if_open-cost.type_inv }) in
    let Cost = λ (p : Place) (z : ℤ). opened opens (number p) ≡ true
    → IsCostAt net w c.args.prices.now c.args.group p c.args.strand z in
    let inv = c.loop-number.invariant in
    record {
      reserved = c.cost_if_open-cost.ensures.reserved;
      family = c.cost_if_open-cost.ensures.family ∙ inv.family;
      long = omega (arith, length-set {A = ℤ}, inv.long);
      costs = rw whole (filled Cost c.loop-number.costs (pos 0) c.loop-number.number
          c.place_of-place.result c.place_of-place.ensures inv.costs cost
          (omega (arith, inv.long))
          (λ o. c.cost_if_open-cost.ensures.cost
          (subst (λ (n : ℕ). opened opens n ≡ true) c.place_of-place.ensures o)));
    }

pub returns-clause-costs : goal.returns-clause-costs
returns-clause-costs g c = λ p lt o.
    c.loop-number.invariant.costs p (omega (arith, lt, c.loop-number-test.false)) o
