use Rattle.std.proofs.Common.{ℕ, ◌≡◌, ℤ, pos, length-set, arith, refl, sym, subst, ◌∙◌, to_z, of_z}
use Rattle.std.proofs.Common.{w64, get_or-set_other}
use Rattle.std.proofs.lemmas.Int.{to_z-of_z}
use Rattle.pra_list.proofs.Growing.{stored}
use Rattle.pra_base.specs.declared.ids.Place.{Place}
use Rattle.pra_base.specs.Places.{number}
use Rattle.pra_base.proofs.PlaceNumbers.{number_below}
use Rattle.net_form.proofs.PlaceEquality.{number-injective}
use Rattle.net_path.specs.Ties.{IsMore, HasPayRoom, tie_pay}
use Rattle.net_path.specs.Ways.{at}
use Rattle.net_path.proofs.ties.pay_tie.Goals as goal

pub cost_with-requires-clause-cost : goal.cost_with-requires-clause-cost
cost_with-requires-clause-cost c =
    let same = c.loop-p.invariant.left c.loop-p.p (omega arith) in
    rw same (subst (λ (k : ℕ). HasPayRoom (at c.args.row.now.costs k))
    c.place_of.ensures (c.requires.row c.place_of.result))

pub loop-p-preserved : goal.loop-p-preserved
loop-p-preserved c =
    let p = c.loop-p.p in
    let whole : to_z w64 (of_z w64 c.cost_with.result) ≡ c.cost_with.result =
    to_z-of_z w64 c.cost_with.result (record { sfits = c.cost_with.type_inv }) in
    let price : to_z w64 (of_z w64 c.tie_pay-more.result) ≡ c.tie_pay-more.result =
    to_z-of_z w64 c.tie_pay-more.result (record { sfits = c.tie_pay-more.type_inv }) in
    let same = c.loop-p.invariant.left p (omega arith) in
    let paid : IsMore (at c.args.row.now.costs p) c.tie_pay-more.result c.cost_with.result =
    rw same at (rw price at c.cost_with.ensures) in
    let More = λ (k : ℕ) (z : ℤ). (place : Place) → number place ≡ k
    → IsMore (at c.args.row.now.costs k)
    (tie_pay c.args.prices.now c.args.leaves c.args.tie place) z in
    record {
      long = omega (arith, length-set {A = ℤ}, c.loop-p.invariant.long);
      more = rw whole (stored More c.loop-p.row.costs p c.cost_with.result (pos 0)
          (omega (arith, c.loop-p.invariant.long)) c.loop-p.invariant.more
          (λ place is. subst (λ (z : ℤ). IsMore (at c.args.row.now.costs p) z c.cost_with.result)
          (subst (λ (q : Place). c.tie_pay-more.result ≡ tie_pay c.args.prices.now c.args.leaves
          c.args.tie q) (number-injective c.place_of.result place (c.place_of.ensures ∙ sym is))
          c.tie_pay-more.ensures.value) paid));
      left = λ k le. get_or-set_other c.loop-p.row.costs p k _ (pos 0) (omega arith)
          ∙ c.loop-p.invariant.left k (omega arith);
    }

pub returns : goal.returns
returns c = λ place.
    c.loop-p.invariant.more (number place) (let b = number_below place in omega arith) place refl
