use Rattle.std.proofs.Common.{◌≡◌, ◌+◌, ◌-◌, ◌<◌, ◌∙◌, ℕ, None, length, get_or, drop, length-drop}
use Rattle.std.proofs.Common.{refl, subst, arith}
use Rattle.pra_base.specs.declared.ids.Place.TheVariants.{Eax}
use Rattle.net_cost.specs.Models.{weights_of}
use Rattle.net_form.specs.Admitted.{strand_at}
use Rattle.net_plain.specs.Rows.{coming}
use Rattle.net_plain.specs.Rests.{GoToEnd, IsCostOf, place_before}
use Rattle.net_plain.proofs.Fronts.{IsCostFrom, one_before}
use Rattle.net_plain.proofs.LeastRests.{onward}
use Rattle.net_plain.proofs.Whole.{cost_within}
use Rattle.net_plain.proofs.price.cost_of.Goals as goal

pub there-behind-requires-clause-left : goal.there-behind-requires-clause-left
there-behind-requires-clause-left g c =
    let path = c.args.path.now in
    let k = c.loop-at.at in
    let l = c.index.result.now.first + k in
    let left = length-drop k path in
    let long : GoToEnd c.args.net.now c.args.strand l (drop k path) = omega arith in
    cost_within c.args.net.now c.requires.net c.args.strand c.requires.strand c.args.prices.now
    c.requires.prices (weights_of c.args.model.now) c.requires.kept.valid c.args.ends
    c.args.taken.now l (place_before path k) (drop k path) c.loop-at.left long
    c.loop-at.invariant.cost

pub loop-at-preserved : goal.loop-at-preserved
loop-at-preserved g c =
    let net = c.args.net.now in
    let w = weights_of c.args.model.now in
    let prices = c.args.prices.now in
    let ends = c.args.ends in
    let taken = c.args.taken.now in
    let s = c.args.strand in
    let path = c.args.path.now in
    let first = c.index.result.now.first in
    let k = c.loop-at.at - 1 in
    let q = get_or path k Eax in
    let lt : k < length path = omega arith in
    let next : c.loop-at.at ≡ k + 1 = omega arith in
    let step = one_before net w prices ends taken s path first k q c.loop-at.left lt refl
    (subst (λ (n : ℕ). IsCostFrom net w prices ends taken s path first n c.loop-at.left) next
    c.loop-at.invariant.cost) in
    let same : c.coming-left.result
    ≡ onward net w prices ends taken s (first + k) (place_before path k) q c.loop-at.left
    = c.coming-left.ensures ∙ (λ i. coming net w s (first + k) (c.place_before.ensures i) q
    (c.there-behind.ensures.value i)) in
    record {
      is_first = c.loop-at.invariant.is_first;
      within = omega arith;
      cost = rw same step;
    }

pub returns : goal.returns
returns g c =
    let path = c.args.path.now in
    let first = c.index.result.now.first in
    let none : c.loop-at.at ≡ 0 = omega arith in
    let begins : first + 0 ≡ (strand_at c.args.net.now c.args.strand).first = omega arith in
    subst (λ (l : ℕ). IsCostOf c.args.net.now (weights_of c.args.model.now) c.args.prices.now
    c.args.ends c.args.taken.now c.args.strand l None path c.loop-at.left) begins
    (subst (λ (n : ℕ). IsCostFrom c.args.net.now (weights_of c.args.model.now) c.args.prices.now
    c.args.ends c.args.taken.now c.args.strand path first n c.loop-at.left) none
    c.loop-at.invariant.cost)
