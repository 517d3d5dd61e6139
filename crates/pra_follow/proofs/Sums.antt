-- Sums over lists.
use Rattle.std.proofs.Common.{◌≡◌, ℕ, suc, ◌+◌, ◌*◌, ◌≤◌, List, [], ◌∷◌, length, Some, refl, arith}
use Rattle.std.specs.Prelude.{slice_get}
use Rattle.std.specs.List.{sum_by}
use Rattle.std.proofs.lemmas.List.Sums.{sum_by-cons}

-- where each element gives at most a times what another number is, and b more
pub sum_below : {A : Type 0} (f g : A → ℕ) (a b : ℕ) → ((x : A) → f x ≤ a * g x + b) →
    (xs : List A) → sum_by f xs ≤ a * sum_by g xs + b * length xs
sum_below f g a b le [] = omega arith
sum_below f g a b le (x ∷ xs) =
    let one = le x in
    let rest = sum_below f g a b le xs in
    let whole = sum_by-cons f x xs in
    let other = sum_by-cons g x xs in
    let product : a * (g x + sum_by g xs) ≡ a * g x + a * sum_by g xs = grind arith in
    let count : b * length (x ∷ xs) ≡ b + b * length xs = grind arith in
    let same : a * sum_by g (x ∷ xs) ≡ a * (g x + sum_by g xs) = rw other refl in
    omega (arith, one, rest, whole, product, count, same)

-- the elements of a list that goes along with the beginning of another give no more than those do
pub sum_of_front : {X Y : Type 0} (f : X → ℕ) (g : Y → ℕ) (xs : List X) (ys : List Y) → length ys ≤
    length xs →
    ((k : ℕ) (x : X) (y : Y) → slice_get xs k ≡ Some x → slice_get ys k ≡ Some y → g y ≤ f x) →
    sum_by g ys ≤ sum_by f xs
sum_of_front f g xs [] le each = omega arith
sum_of_front f g [] (y ∷ ys) le each = absurd (omega (arith, le))
sum_of_front f g (x ∷ xs) (y ∷ ys) le each =
    let one = each 0 x y refl refl in
    let rest = sum_of_front f g xs ys (omega (arith, le)) (λ k. each (suc k)) in
    let whole = sum_by-cons f x xs in
    let part = sum_by-cons g y ys in
    omega (arith, one, rest, whole, part)
