use Rattle.std.proofs.Common.{◌≡◌, ◌∙◌, true, ◌+ℤ◌, Some, None, ap, sym, subst, arith}
use Rattle.std.specs.Prelude.{slice_index_or}
use Rattle.std.specs.Int.{w128}
use Rattle.std.proofs.lemmas.Int.{ints, to_z-of_z}
use Rattle.pra_base.specs.Places.{number}
use Rattle.net_cost.specs.Models.{weights_of}
use Rattle.net_form.specs.Admitted.{stays_across}
use Rattle.net_dual.specs.Small.{most_sum}
use Rattle.net_dual.specs.Leasts.{cost_at}
use Rattle.net_dual.proofs.Leasts.{within_of, same_bits}
use Rattle.cert_check.specs.Tolls.{edge, way_toll}
use Rattle.cert_check.proofs.Guarded.{guarded_is}
use Rattle.cert_check.proofs.Crossing.{stays_same, stays_odd}
use Rattle.cert_check.proofs.pass.via.Goals.{else-spot-eq0-via-then-spot-eq0+else-number}
use Rattle.cert_check.proofs.pass.via.Goals.{else-spot-eq0-via-else-spot-eq0}
use Rattle.cert_check.proofs.pass.via.Goals as goal

pub returns : goal.returns
returns g c =
    let net = c.args.net.now in
    let w = weights_of c.args.model.now in
    let s = c.args.spot.strand in
    let l = c.args.spot.layer in
    let row = c.args.row.now in
    let from = c.args.from in
    let to = c.args.to in
    let cost = c.in-Some.cost in
    let at : cost_at row (number from) ≡ Some cost
    = subst (λ k. slice_index_or row k None ≡ Some cost) c.number-2.ensures.value c.in-Some.is in
    let stays : stays_across (edge s l (Some from) to) ≡ true = elim c.else-spot-eq0.branch [
      | else-spot-eq0-via-then-spot-eq0+else-number w ↦
          stays_same s l from to (sym w.number.ensures.value ∙ w.if-number.false
          ∙ w.number-then-spot-eq0.ensures.value)
      | else-spot-eq0-via-else-spot-eq0 w ↦ stays_odd s l from to w.if-spot-eq0.false
    ] in
    let old = within_of most_sum (cost_at row (number from)) cost at
    (c.requires.row (number from)) in
    let exact_cost = same_bits most_sum cost (omega arith) old in
    let exact_way = to_z-of_z w128 c.in_units.result (record { sfits = c.in_units.type_inv }) in
    let whole : c.add.result ≡ cost +ℤ way_toll net w s l (Some from) to
    = omega (arith, ints, c.add.ensures, c.in_units.ensures, c.way_cost-way.ensures.value) in
    rw (to_z-of_z w128 c.add.result (record { sfits = c.add.type_inv })) (record {
      value = ap Some whole ∙ sym (guarded_is (stays_across (edge s l (Some from) to))
          (λ d. d +ℤ way_toll net w s l (Some from) to) (cost_at row (number from)) cost stays at);
      within = record { low = omega (arith, ints); high = omega (arith, ints) };
    })
