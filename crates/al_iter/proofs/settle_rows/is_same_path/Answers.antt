use Rattle.std.proofs.Common.{◌≡◌, get_or, sym, ◌∙◌, subst, arith, inl, inr}
use Rattle.std.proofs.lemmas.Bool.{cases_eq}
use Rattle.std.proofs.lemmas.Bool.Decides.{nat_tests}
use Rattle.std.proofs.lemmas.List.{ext_get_or}
use Rattle.pra_base.specs.declared.ids.Place.TheVariants.{Eax}
use Rattle.net_form.proofs.PlaceEquality.{number-injective}
use Rattle.al_iter.proofs.settle_rows.is_same_path.Goals as goal

pub loop-at-preserved : goal.loop-at-preserved
loop-at-preserved c = λ k lt.
    let path = c.args.path.now in
    let other = c.args.other.now in
    let at = c.loop-at.at in
    elim (cases_eq k at) as (λ _. get_or path k Eax ≡ get_or other k Eax) [
      | inl same ↦ subst (λ n. get_or path n Eax ≡ get_or other n Eax) (sym same)
          (number-injective (get_or path at Eax) (get_or other at Eax)
          (sym c.number.ensures.value ∙ grind (arith, nat_tests, c.if-number.false)
          ∙ c.number-in-loop-at.ensures.value))
      | inr apart ↦ c.loop-at.invariant k (omega (arith, lt, apart))
    ]

pub returns : goal.returns
returns c = λ _. ext_get_or Eax c.args.path.now c.args.other.now c.requires (λ k lt.
    c.loop-at.invariant k
    (let done = c.loop-at-test.false in grind (arith, nat_tests, lt, done)))
