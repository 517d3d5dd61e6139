use Rattle.std.proofs.Common.{ℕ, ◌≡◌, ◌*◌, ◌∙◌, Option, eqb, ℤ, pos, length, length-set, set}
use Rattle.std.proofs.Common.{get_or-set_same, get_or-set_other, sym, subst, ap, arith, rules}
use Rattle.std.proofs.Common.{w64, to_z, of_z}
use Rattle.std.proofs.lemmas.Int.{to_z-of_z}
use Rattle.std.proofs.lemmas.Bool.{eqb-true, and_parts}
use Rattle.std.proofs.lemmas.Option.{slice_get_past}
use Rattle.pra_base.specs.declared.ids.Place.{Place}
use Rattle.pra_base.specs.Places.{number}
use Rattle.pra_base.proofs.PlaceNumbers.{number_below}
use Rattle.net_cost.specs.Models.{weights_of}
use Rattle.net_cost.specs.Weights.{weight_of}
use Rattle.net_form.specs.declared.net.Extra.{Extra}
use Rattle.net_form.specs.Cost.{depth_at, extra_cost}
use Rattle.net_form.specs.Ordered.{extra_there}
use Rattle.net_form.proofs.ExtrasInOrder.{found}
use Rattle.net_form.proofs.PlaceEquality.{number-injective}
use Rattle.net_path.specs.Cells.{IsCellWith}
use Rattle.net_path.specs.Ways.{at}
use Rattle.net_path.proofs.PaidExtras.{none_so_far, one_more, all_paid}
use Rattle.net_path.proofs.cells.pay_extras.Goals as goal

pub loop-next-init : goal.loop-next-init
loop-next-init g c =
    let long : length c.args.row.now.costs ≡ 16 = search rules in record {
      long = long;
      behind = omega (arith, c.requires.spot.extra);
      cells = λ place. none_so_far c.args.net.now (weights_of c.args.model.now) c.args.spot
          c.args.places c.args.caps.now c.requires.extras place c.args.spot.extra
          (at c.args.row.now.costs (number place)) c.requires.spot.extra (c.requires.row place);
    }

pub returns-in_default : goal.returns-in_default
returns-in_default g c = λ place.
    all_paid c.args.net.now (weights_of c.args.model.now) c.args.spot c.args.places c.args.caps.now
    c.requires.extras place c.loop-next.next (at c.loop-next.row.costs (number place))
    c.loop-next.invariant.behind (sym c.extra_at.ensures ∙ c.in_default.is)
    (c.loop-next.invariant.cells place)

pub loop-next-preserved : goal.loop-next-preserved
loop-next-preserved g c =
    let net = c.args.net.now in
    let w = weights_of c.args.model.now in
    let spot = c.args.spot in
    let x = c.in-Some.extra in
    let is = sym c.extra_at.ensures ∙ c.in-Some.is in
    let there = (found spot.strand spot.layer net.extras c.loop-next.next x is).2 in
    let strand : x.strand ≡ spot.strand = eqb-true x.strand spot.strand
    (and_parts (eqb x.strand spot.strand) (eqb x.layer spot.layer) there).0 in
    let value : c.price_of-price.result ≡ pos (1024 * extra_cost net w x) =
    c.price_of-price.ensures.value
    ∙ ap (λ (d : ℕ). pos (1024 * weight_of w x.event d)) c.depth.ensures.value
    ∙ ap (λ (n : ℕ). pos (1024 * weight_of w x.event (depth_at net n))) (sym strand) in
    let price : to_z w64 (of_z w64 c.price_of-price.result) ≡ c.price_of-price.result =
    to_z-of_z w64 c.price_of-price.result (record { sfits = c.price_of-price.type_inv }) in
    let whole : to_z w64 (of_z w64 c.cell-paid.result) ≡ c.cell-paid.result =
    to_z-of_z w64 c.cell-paid.result (record { sfits = c.cell-paid.type_inv }) in
    let costs = c.loop-next.row.costs in
    let i = c.number.result in
    let paid = c.cell-paid.result in
    let small = number_below x.place in
    let put : at (set costs i paid) i ≡ paid = get_or-set_same costs i paid (pos 0)
    (omega (arith, c.loop-next.invariant.long, c.number.ensures.below)) in
    let cell : IsCellWith c.args.places c.args.caps.now (pos (1024 * extra_cost net w x)) x.place
    paid = subst (λ (e : ℤ). IsCellWith c.args.places c.args.caps.now e x.place paid) value
    (rw price at c.cell-paid.ensures) in
    record {
      long = omega (arith, length-set {A = ℤ}, c.loop-next.invariant.long);
      behind = omega (arith, c.loop-next.invariant.behind);
      cells = rw whole (λ place. one_more net w spot c.args.places c.args.caps.now
          c.requires.extras place c.loop-next.next x (at costs (number place))
          (at (set costs i paid) (number place)) is (c.loop-next.invariant.cells place)
          (λ other. get_or-set_other costs i (number place) paid (pos 0)
          (λ e. other (e ∙ c.number.ensures.value)))
          (λ same. subst (λ (z : ℤ). IsCellWith c.args.places c.args.caps.now
          (pos (1024 * extra_cost net w x)) place z)
          (sym (ap (λ (k : ℕ). at (set costs i paid) k) (sym same ∙ sym c.number.ensures.value)
          ∙ put))
          (subst (λ (q : Place). IsCellWith c.args.places c.args.caps.now
          (pos (1024 * extra_cost net w x)) q paid) (number-injective x.place place same) cell)));
    }

pub returns : goal.returns
returns g c = λ place.
    all_paid c.args.net.now (weights_of c.args.model.now) c.args.spot c.args.places c.args.caps.now
    c.requires.extras place c.loop-next.next (at c.loop-next.row.costs (number place))
    c.loop-next.invariant.behind
    (ap (λ (o : Option Extra). extra_there c.args.spot.strand c.args.spot.layer o)
    (slice_get_past c.args.net.now.extras c.loop-next.next (omega (arith, c.loop-next-test.false))))
    (c.loop-next.invariant.cells place)
