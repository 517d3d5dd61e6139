-- What holds of the elements that a loop has come by, with their numbers.
use Rattle.std.proofs.Common.{◌≡◌, ℕ, ◌+◌, ◌<◌, ◌≤◌, inl, inr, List, Some, length, get_or, refl}
use Rattle.std.proofs.Common.{sym, subst, arith}
use Rattle.std.proofs.lemmas.Bool.{cases_eq}
use Rattle.std.proofs.lemmas.List.{get_or_default}
use Rattle.std.specs.List.{slice_get}
use Rattle.std.proofs.lemmas.Option.{slice_get_read, slice_get_within}

-- the fact holds of each of the first so many elements
pub record HoldsAt {A : Type 0} (P : ℕ → A → Type 0) (xs : List A) (count : ℕ) : Type 0 where
  pub each : (k : ℕ) (x : A) → k < count → slice_get xs k ≡ Some x → P k x

pub none_yet : {A : Type 0} (P : ℕ → A → Type 0) (xs : List A) → HoldsAt P xs 0
none_yet P xs = record { each = λ k x below at. absurd (omega (arith, below)) }

pub one_more : {A : Type 0} (P : ℕ → A → Type 0) (xs : List A) (k : ℕ) (x : A) → HoldsAt P xs k →
    k < length xs → x ≡ get_or xs k x → P k x → HoldsAt P xs (k + 1)
one_more P xs k x so_far within read here = record {
  each = λ j y below at. elim (cases_eq j k) [
    | inl is ↦
        let there = slice_get_read xs (length xs) k x refl within read in
        let first : slice_get xs k ≡ Some y = subst (λ n. slice_get xs n ≡ Some y) is at in
        let same : x ≡ y = cc in
        subst (λ n. P n y) (sym is) (subst (P k) same here)
    | inr apart ↦ so_far.each j y (omega arith) at
  ];
}

pub one_more_read : {A : Type 0} (P : ℕ → A → Type 0) (xs : List A) (k : ℕ) (d : A) →
    HoldsAt P xs k → k < length xs → P k (get_or xs k d) → HoldsAt P xs (k + 1)
one_more_read P xs k d so_far within here = one_more P xs k (get_or xs k d) so_far within
    (get_or_default xs k d (get_or xs k d) within) here

pub of_each : {A : Type 0} (P : ℕ → A → Type 0) (xs : List A) (count : ℕ) → HoldsAt P xs count →
    length xs ≤ count → (k : ℕ) (x : A) → slice_get xs k ≡ Some x → P k x
of_each P xs count held whole k x at =
    held.each k x (let within = slice_get_within xs k x at in omega arith) at
