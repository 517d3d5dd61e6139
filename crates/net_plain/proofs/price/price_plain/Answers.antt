use Rattle.std.proofs.Common.{◌≡◌, ◌∙◌, sym, to_z, of_z, arith}
use Rattle.std.specs.Int.{w64}
use Rattle.std.proofs.lemmas.Bool.{eq-eqb, eqb-true}
use Rattle.std.proofs.lemmas.Int.{to_z-of_z}
use Rattle.net_cost.specs.Models.{weights_of}
use Rattle.net_dual.specs.Small.{most_sum}
use Rattle.net_dual.proofs.Leasts.{same_bits}
use Rattle.net_plain.proofs.Whole.{long_of, as_long, passes_of, goes_of, price_small}
use Rattle.net_plain.proofs.price.price_plain.Goals as goal

pub returns-then-not-has_each_layer-clause-none : goal.returns-then-not-has_each_layer-clause-none
returns-then-not-has_each_layer-clause-none g c = λ goes.
    let same = eq-eqb _ _ (as_long c.args.net.now c.requires.net c.args.strand c.requires.strand
    c.args.path.now goes.path.long) in
    absurd (cc (same, c.has_each_layer.ensures))

pub cost_of-requires-clause-long : goal.cost_of-requires-clause-long
cost_of-requires-clause-long g c = long_of c.args.net.now c.requires.net c.args.strand
    c.requires.strand c.args.path.now
    (eqb-true _ _ (sym c.has_each_layer.ensures ∙ c.if-not-has_each_layer.false))

pub narrow-requires : goal.narrow-requires
narrow-requires g c =
    let net = c.args.net.now in
    let s = c.args.strand in
    let path = c.args.path.now in
    let long = long_of net c.requires.net s c.requires.strand path
    (eqb-true _ _ (sym c.has_each_layer.ensures ∙ c.if-not-has_each_layer.false)) in
    let cost = rw c.in-Some.is at c.cost_of.ensures in
    let goes = goes_of net c.requires.net s c.requires.strand c.args.ends c.args.taken.now path long
    cost.0 in
    let small = price_small net c.requires.net s c.requires.strand c.args.prices.now
    c.requires.prices (weights_of c.args.model.now) c.requires.kept.valid path c.in-Some.cost
    goes.path cost.1 in
    rw (same_bits most_sum c.in-Some.cost (omega arith) small) small

pub returns-in-Some-clause-price : goal.returns-in-Some-clause-price
returns-in-Some-clause-price g c =
    let net = c.args.net.now in
    let s = c.args.strand in
    let path = c.args.path.now in
    let long = long_of net c.requires.net s c.requires.strand path
    (eqb-true _ _ (sym c.has_each_layer.ensures ∙ c.if-not-has_each_layer.false)) in
    let cost = rw c.in-Some.is at c.cost_of.ensures in
    let goes = goes_of net c.requires.net s c.requires.strand c.args.ends c.args.taken.now path long
    cost.0 in
    let small = price_small net c.requires.net s c.requires.strand c.args.prices.now
    c.requires.prices (weights_of c.args.model.now) c.requires.kept.valid path c.in-Some.cost
    goes.path cost.1 in
    let exact = same_bits most_sum c.in-Some.cost (omega arith) small in
    let narrow = to_z-of_z w64 c.narrow.result (record { sfits = c.narrow.type_inv }) in
    let same : c.in-Some.cost ≡ to_z w64 (of_z w64 c.narrow.result)
    = cc (exact, narrow, c.narrow.ensures) in
    (goes, sym same ∙ cost.1)

pub returns-in-None-clause-none : goal.returns-in-None-clause-none
returns-in-None-clause-none g c = λ goes. (rw c.in-None.is at c.cost_of.ensures)
    (passes_of c.args.net.now c.requires.net c.args.strand c.requires.strand c.args.ends
    c.args.taken.now c.args.path.now goes)
