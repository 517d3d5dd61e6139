-- What holds of each element of a list below a number.
use Rattle.std.proofs.Common.{◌≡◌, ℕ, ◌+◌, ◌≤◌, ◌<◌, List, Some, sym, ap, ◌∙◌, subst, arith, ⊎_elim}
use Rattle.std.specs.Prelude.{slice_get}
use Rattle.std.proofs.lemmas.Bool.{cases_lt}
use Rattle.pra_list.proofs.Options.{some_same}

module _ {X : Type 0} (P : X → Type 0) (xs : List X) where
  abbrev pub Below : ℕ → Type 0
  Below n = (k : ℕ) (x : X) → k < n → slice_get xs k ≡ Some x → P x

  pub below_none : Below 0
  below_none k x lt there = absurd (omega (arith, lt))

  pub below_next : (n : ℕ) (x : X) → slice_get xs n ≡ Some x → P x → Below n → Below (n + 1)
  below_next n x is it before k y lt there =
      ⊎_elim
      (λ (l : k < n). before k y l there)
      (λ (le : n ≤ k).
      let same : n ≡ k = omega (arith, lt, le) in
      subst P (some_same x y (sym is ∙ ap (slice_get xs) same ∙ there)) it)
      (cases_lt k n)
