use Rattle.std.proofs.Common.{◌≡◌, get_or, sym, ◌∙◌, subst, arith, inl, inr}
use Rattle.std.proofs.lemmas.Bool.{cases_eq}
use Rattle.std.proofs.lemmas.Bool.Decides.{nat_tests}
use Rattle.std.proofs.lemmas.List.{get_or_default}
use Rattle.pra_base.specs.declared.ids.Place.TheVariants.{Mem, Eax}
use Rattle.net_form.proofs.PlaceEquality.{number-injective}
use Rattle.al_iter.proofs.settle_stay.is_in_memory.Goals as goal

pub loop-at-preserved : goal.loop-at-preserved
loop-at-preserved c = λ k d lt.
    let path = c.args.path.now in
    let at = c.loop-at.at in
    elim (cases_eq k at) as (λ _. get_or path k d ≡ Mem) [
      | inl same ↦ subst (λ n. get_or path n d ≡ Mem) (sym same)
          (get_or_default path at d Eax (omega arith)
          ∙ number-injective (get_or path at Eax) Mem
          (sym c.number.ensures.value ∙ grind (arith, nat_tests, c.if-number.false)
          ∙ c.number-in-loop-at.ensures.value))
      | inr apart ↦ c.loop-at.invariant k d (omega (arith, lt, apart))
    ]
