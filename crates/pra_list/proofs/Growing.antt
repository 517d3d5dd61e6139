-- Lists an element longer: ranges, lists with their numbers, and lists that a loop fills.
use Rattle.std.proofs.Common.{◌≡◌, ℕ, zero, suc, ◌+◌, ◌<◌, List, [], ◌∷◌, ◌++◌, length, get_or, set}
use Rattle.std.proofs.Common.{get_or-set_same, get_or-set_other, sym, ap, ◌∙◌, subst, inl, inr}
use Rattle.std.proofs.Common.{arith}
use Rattle.std.specs.List.{enumerate_from, range_with_len}
use Rattle.std.proofs.lemmas.Bool.{cases_eq}

pub last_range : (a n : ℕ) → range_with_len a (n + 1) ≡ range_with_len a n ++ (a + n) ∷ []
last_range a zero = let e : a ≡ a + 0 = omega arith in ap (λ (k : ℕ). k ∷ []) e
last_range a (suc n) =
    let e : a + 1 + n ≡ a + suc n = omega arith in
    let g : suc n + 1 ≡ suc (n + 1) = omega arith in
    rw g (ap (λ (xs : List ℕ). a ∷ xs)
    (last_range (a + 1) n ∙ ap (λ (k : ℕ). range_with_len (a + 1) n ++ k ∷ []) e))

pub range_next : (n : ℕ) → range_with_len 0 (n + 1) ≡ range_with_len 0 n ++ n ∷ []
range_next n =
    let e : 0 + n ≡ n = omega arith in
    last_range 0 n ∙ ap (λ (k : ℕ). range_with_len 0 n ++ k ∷ []) e

pub enumerate_more : {X : Type 0} (a : ℕ) (xs : List X) (y : X)
    → enumerate_from a (xs ++ y ∷ []) ≡ enumerate_from a xs ++ (a + length xs, y) ∷ []
enumerate_more a [] y = ap (λ n. (n, y) ∷ []) (let e : a ≡ a + 0 = omega arith in e)
enumerate_more a (x ∷ xs) y =
    let e : (a + 1) + length xs ≡ a + suc (length xs) = omega arith in
    ap (λ zs. (a, x) ∷ zs)
    (enumerate_more (a + 1) xs y ∙ ap (λ n. enumerate_from (a + 1) xs ++ (n, y) ∷ []) e)

-- what holds of each of the first n elements and of a new one holds of the first n + 1 once it is
-- there
pub stored : {A : Type 0} (P : ℕ → A → Type 0) (xs : List A) (n : ℕ) (x d : A) → n < length xs
    → ((k : ℕ) → k < n → P k (get_or xs k d)) → P n x
    → (k : ℕ) → k < n + 1 → P k (get_or (set xs n x) k d)
stored P xs n x d within each here k lt =
    elim (cases_eq k n) as (λ _. P k (get_or (set xs n x) k d)) [
      | inl is ↦ subst (λ k. P k (get_or (set xs n x) k d)) (sym is)
          (subst (P n) (sym (get_or-set_same xs n x d within)) here)
      | inr other ↦ subst (P k) (sym (get_or-set_other xs n k x d other))
          (each k (omega (arith, lt, other)))
    ]
