-- The kinds of the tokens from a place on.
use Rattle.std.proofs.Common.{◌≡◌, ℕ, zero, suc, ◌<◌, List, [], ◌∷◌, Some, None, refl, length, drop}
use Rattle.std.proofs.Common.{arith}
use Rattle.std.specs.Prelude.{slice_get, option_map}
use Rattle.ob_syntax.specs.declared.token.Kind.{Kind}
use Rattle.ob_syntax.specs.declared.token.Token.{Token}
use Rattle.ob_syntax.specs.Whole.{kinds}
use Rattle.ob_syntax.specs.ChosenRule.{first}

pub first_is : (xs : List Token) (n : ℕ) → first (kinds (drop n xs)) ≡ option_map (λ x. x.kind)
    (slice_get xs n)
first_is [] zero = refl
first_is [] (suc n) = refl
first_is (x ∷ xs) zero = refl
first_is (x ∷ xs) (suc n) = first_is xs n

pub below : (xs : List Token) (n : ℕ) → (first (kinds (drop n xs)) ≡ None → ⊥) → n < length xs
below [] zero h = absurd (h refl)
below [] (suc n) h = absurd (h refl)
below (x ∷ xs) zero h = omega arith
below (x ∷ xs) (suc n) h = let i = below xs n h in omega arith

pub gone : (xs : List Token) (n : ℕ) (k : Kind) → first (kinds (drop n xs)) ≡ Some k →
    kinds (drop n xs) ≡ k ∷ kinds (drop (suc n) xs)
gone [] zero k e = cc
gone [] (suc n) k e = cc
gone (x ∷ xs) zero k e = cc
gone (x ∷ xs) (suc n) k e = gone xs n k e
