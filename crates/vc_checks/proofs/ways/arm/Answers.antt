use Rattle.std.proofs.Common.{sym, subst, List, Option, [], ◌∷◌, true}
use Rattle.std.specs.Prelude.{IfSome}
use Rattle.pra_base.specs.Code.{kind_of}
use Rattle.vc_checks.specs.declared.fact.Fact.{Fact}
use Rattle.vc_checks.specs.declared.ways.Comparison.{Comparison}
use Rattle.vc_checks.specs.Facts.{AllHold}
use Rattle.vc_checks.specs.Ways.{Compares}
use Rattle.vc_checks.proofs.Leaving.{learned_hold, on_some}
use Rattle.vc_checks.proofs.ways.arm.Goals as goal

pub returns-in_default-turned : goal.returns-in_default-turned
returns-in_default-turned c = λ held all some.
    let kind = kind_of c.args.code.now in
    let holds = subst (λ (o : Option Comparison). IfSome o (λ x. Compares kind held x true))
    c.in-Some.is some in
    learned_hold kind held c.in_ok-new.new.items c.learn.new.known.items c.told.result
    c.in_ok-learn.ensures
    (subst (λ (fs : List Fact). AllHold kind held fs) (sym c.in_ok-new.ensures.items) all)
    (on_some c.told.result _ (λ f. AllHold kind held (f ∷ [])) (λ f h. h held all holds)
    c.told.ensures)

pub returns : goal.returns
returns c = λ held all some.
    let kind = kind_of c.args.code.now in
    let holds = subst (λ (o : Option Comparison). IfSome o (λ x. Compares kind held x true))
    c.in-Some.is some in
    learned_hold kind held c.learn.new.known.items c.learn-2.new.known.items c.told-2.result
    c.in_ok-learn-2.ensures
    (learned_hold kind held c.in_ok-new.new.items c.learn.new.known.items c.told.result
    c.in_ok-learn.ensures
    (subst (λ (fs : List Fact). AllHold kind held fs) (sym c.in_ok-new.ensures.items) all)
    (on_some c.told.result _ (λ f. AllHold kind held (f ∷ [])) (λ f h. h held all holds)
    c.told.ensures))
    (on_some c.told-2.result _ (λ f. AllHold kind held (f ∷ []))
    (λ f h. h held all (c.in-Some-turned.ensures kind held holds)) c.told-2.ensures)
