use Rattle.std.proofs.Common.{List, All, refl, subst, arith}
use Rattle.std.proofs.lemmas.List.{take_all}
use Rattle.std.proofs.lemmas.List.Elements.{All-more}
use Rattle.vc_tidy.specs.declared.places.Place.{Place}
use Rattle.vc_tidy.specs.Joined.{MeetsAt}
use Rattle.vc_tidy.proofs.meets.meets.Goals as goal

pub loop-place-preserved : goal.loop-place-preserved
loop-place-preserved c =
    All-more (λ (p : Place). All (λ w. MeetsAt c.args.code.now p.block p.index c.args.v w → ⊥)
    c.args.others.now) c.args.places.now c.loop-place.place-index
    (record { block = 0; index = 0 }) c.loop-place-test.true c.loop-place.invariant
    (c.if-meets_at.ensures.none refl)

pub returns-clause-none : goal.returns-clause-none
returns-clause-none c = λ e.
    subst (λ (ps : List Place). All
    (λ (p : Place). All (λ w. MeetsAt c.args.code.now p.block p.index c.args.v w → ⊥)
    c.args.others.now) ps) (take_all c.loop-place.place-index c.args.places.now (omega arith))
    c.loop-place.invariant
