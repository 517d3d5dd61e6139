use Rattle.std.proofs.Common.{ℕ, List, All, get_or, refl, subst, ◌∙◌, arith}
use Rattle.std.proofs.lemmas.List.{take_all}
use Rattle.std.proofs.lemmas.List.Elements.{All-more}
use Rattle.vc_tidy.specs.declared.places.Place.{Place}
use Rattle.vc_tidy.specs.Joined.{Meets, MeetsAt, NoneMeet}
use Rattle.vc_tidy.proofs.Meeting.{nowhere, nowhere_met, the_places}
use Rattle.vc_tidy.proofs.meets.groups_meet.Goals as goal

pub loop-v-preserved-then-at-places : goal.loop-v-preserved-then-at-places
loop-v-preserved-then-at-places c =
    All-more (λ v. All (λ w. Meets c.args.code.now v w → ⊥) c.args.other.now) c.args.one.now
    c.loop-v.v-index 0 c.loop-v-test.true c.loop-v.invariant
    (λ k d lt m. nowhere c.args.code.now c.args.places.now
    (get_or c.args.one.now c.loop-v.v-index 0) _ c.requires.places
    (omega (arith, c.if-at-places.true)) m)

pub loop-v-preserved : goal.loop-v-preserved
loop-v-preserved c =
    let v = get_or c.args.one.now c.loop-v.v-index 0 in
    All-more (λ v. All (λ w. Meets c.args.code.now v w → ⊥) c.args.other.now) c.args.one.now
    c.loop-v.v-index 0 c.loop-v-test.true c.loop-v.invariant
    (nowhere_met c.args.code.now c.args.places.now v c.args.other.now c.requires.places
    (subst (λ (ps : List Place). All
    (λ (p : Place). All (λ w. MeetsAt c.args.code.now p.block p.index v w → ⊥) c.args.other.now)
    ps)
    (c.as_slice.ensures ∙ the_places c.args.places.now v c.index-places-at.result
    (omega (arith, c.if-at-places.false)) c.index-places-at.is)
    (c.if-meets.ensures.none refl)))

pub returns-clause-none : goal.returns-clause-none
returns-clause-none c = λ e. subst (λ (vs : List ℕ). NoneMeet c.args.code.now vs c.args.other.now)
    (take_all c.loop-v.v-index c.args.one.now (omega arith)) c.loop-v.invariant
