use Rattle.std.proofs.Common.{ℕ, ◌≡◌, ◌∙◌, None, Some, ap, sym, subst, arith, rules, to_z, of_z}
use Rattle.std.proofs.Common.{get_or}
use Rattle.std.specs.Int.{w128}
use mir.Val.{SFits}
use Rattle.std.proofs.lemmas.Int.{to_z-of_z}
use Rattle.al_edge.specs.declared.cheapest.Weighed.{Weighed}
use Rattle.al_edge.specs.Cheapest.{IsBestBelow}
use Rattle.al_edge.proofs.LeastPlace.{none_here, one_here, of_all, not_some}
use Rattle.al_edge.proofs.cheapest.cheapest.Goals as goal

pub loop-number-preserved-in_default : goal.loop-number-preserved-in_default
loop-number-preserved-in_default c = none_here c.args.weights.now c.loop-number.number
    c.loop-number.best (not_some (get_or c.args.weights.now c.loop-number.number None)
    c.in_default.not-Some) c.loop-number.invariant

pub loop-number-preserved : goal.loop-number-preserved
loop-number-preserved c =
    let weights = c.args.weights.now in
    let fits : SFits w128 c.in-Some.weight = search rules in
    let whole : to_z w128 (of_z w128 c.in-Some.weight) ≡ c.in-Some.weight
    = to_z-of_z w128 c.in-Some.weight fits in
    let next : Weighed = record {
      place = c.place_of-place.result;
      weight = to_z w128 (of_z w128 c.in-Some.weight);
    } in
    one_here weights c.loop-number.number next c.place_of-place.ensures
    (ap (λ (k : ℕ). get_or weights k None) c.place_of-place.ensures ∙ c.in-Some.is
    ∙ ap Some (sym whole)) c.loop-number.best c.lesser.result c.lesser.ensures
    c.loop-number.invariant

pub returns-in-Some-best : goal.returns-in-Some-best
returns-in-Some-best c =
    let all : c.loop-number.number ≡ 14
    = omega (arith, c.loop-number-test.false, c.loop-number.auto.number-end) in
    of_all c.args.weights.now c.in-Some-best.best
    (subst (IsBestBelow c.args.weights.now 14) c.in-Some-best.is
    (subst (λ (k : ℕ). IsBestBelow c.args.weights.now k c.loop-number.best) all
    c.loop-number.invariant))
