-- The first element that fails.
use Rattle.std.proofs.Common.{ℕ, ◌≡◌, ◌<◌, List, length, get_or, Some, MatchOption, refl, sym}
use Rattle.std.proofs.Common.{subst, arith, inl, inr, ◌+◌}
use Rattle.std.proofs.lemmas.Bool.{cases_eq}
use Rattle.std.proofs.lemmas.List.{get_or_read}
use Rattle.std.proofs.lemmas.Option.{slice_get_read, slice_get-get_or}
use Rattle.net_gate.specs.Broken.{FailsAt, IsFirstFailing}

module _ {X : Type 0} (P : X → Type 0) (xs : List X) where
  pub fails_at : (k : ℕ) (x : X) → k < length xs → x ≡ get_or xs k x → ¬ P x → FailsAt P xs k
  fails_at k x lt is fails = subst (λ o. MatchOption o ⊥ (λ x. ¬ P x))
      (sym (slice_get_read xs (length xs) k x refl lt is)) fails

  pub passes_at : (k : ℕ) (d : X) → k < length xs → P (get_or xs k d) → ¬ FailsAt P xs k
  passes_at k d lt holds fails = subst (λ o. MatchOption o ⊥ (λ x. ¬ P x))
      (slice_get-get_or xs k d lt) fails holds

  abbrev pub Passed : ℕ → Type 0
  Passed k = (j : ℕ) (d : X) → j < k → P (get_or xs j d)

  pub first_fails : (k : ℕ) (x : X) → k < length xs → x ≡ get_or xs k x → ¬ P x → Passed k →
      IsFirstFailing P xs (Some k)
  first_fails k x lt is fails passed = (
    fails_at k x lt is fails,
    λ j less. passes_at j x (omega (arith, less, lt))
        (passed j x less),
  )

  pub one_more : (k : ℕ) (x : X) → k < length xs → x ≡ get_or xs k x → P x → Passed k →
      Passed (k + 1)
  one_more k x lt is holds passed j d less = elim (cases_eq j k) as (λ _. P (get_or xs j d)) [
    | inl same ↦ subst (λ n. P (get_or xs n d)) (sym same)
        (subst P (get_or_read xs k x lt is d) holds)
    | inr other ↦ passed j d (omega (arith, less, other))
  ]
