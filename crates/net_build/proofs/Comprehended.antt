-- Comprehensions over the elements of a list by their numbers, and over ranges.
use Rattle.std.proofs.Common.{ℕ, zero, suc, ◌≡◌, ◌+◌, ◌<◌, ◌≤◌, List, [], ◌∷◌, ◌++◌, map, length}
use Rattle.std.proofs.Common.{get_or, None, Option, refl, ap, ◌∙◌, arith}
use Rattle.std.specs.List.{range_with_len, flat_map, filter_map, cons_option, enumerate_from}
use Rattle.std.proofs.lemmas.List.{map-append}
use Rattle.std.proofs.lemmas.List.FromFn.{fill_by_all, length-enumerate_from, get_or-enumerate_from}

pub filter_map-map : {X Y Z : Type 0} (h : Y → Option Z) (g : X → Y) (xs : List X) →
    filter_map h (map g xs) ≡ filter_map (λ x. h (g x)) xs
filter_map-map h g [] = refl
filter_map-map h g (x ∷ xs) = ap (cons_option (h (g x))) (filter_map-map h g xs)

pub flat_map-map : {X Y Z : Type 0} (h : Y → List Z) (g : X → Y) (xs : List X) →
    flat_map h (map g xs) ≡ flat_map (λ x. h (g x)) xs
flat_map-map h g [] = refl
flat_map-map h g (x ∷ xs) = ap (λ r. h (g x) ++ r) (flat_map-map h g xs)

pub map-flat_map : {X Y Z : Type 0} (g : Y → Z) (f : X → List Y) (xs : List X) →
    map g (flat_map f xs) ≡ flat_map (λ x. map g (f x)) xs
map-flat_map g f [] = refl
map-flat_map g f (x ∷ xs) = map-append g (f x) (flat_map f xs) ∙ ap (λ r. map g (f x) ++ r)
    (map-flat_map g f xs)

pub map-map : {X Y Z : Type 0} (g : Y → Z) (f : X → Y) (xs : List X) → map g (map f xs) ≡
    map (λ x. g (f x)) xs
map-map g f [] = refl
map-map g f (x ∷ xs) = ap (λ r. g (f x) ∷ r) (map-map g f xs)

-- an enumeration from 0 by numbers alone
pub by_number : {X : Type 0} (d : X) (xs : List X) → enumerate_from 0 xs ≡
    map (λ k. (k, get_or xs k d)) (range_with_len 0 (length xs))
by_number d xs = fill_by_all (λ k. (k, get_or xs k d)) (enumerate_from 0 xs) (length xs) (0, d)
    (length-enumerate_from 0 xs)
    (λ k lt. get_or-enumerate_from 0 xs k (0, d) lt ∙ ap (λ n. (n, get_or xs k d))
    (let e : 0 + k ≡ k = omega arith in e))

-- over a range from a on
pub flat_map-agree : {Y : Type 0} (f g : ℕ → List Y) (n a : ℕ) →
    ((k : ℕ) → a ≤ k → k < a + n → f k ≡ g k) → flat_map f (range_with_len a n) ≡
    flat_map g (range_with_len a n)
flat_map-agree f g zero a same = refl
flat_map-agree {Y} f g (suc n) a same =
    ap (λ r. r ++ flat_map f (range_with_len (a + 1) n)) (same a (omega arith) (omega arith))
    ∙ ap (λ r. g a ++ r) (flat_map-agree f g n (a + 1)
    (λ k ge lt. same k (omega (arith, ge)) (omega (arith, lt))))

pub filter_map-empty : {Y : Type 0} (f : ℕ → Option Y) (n a : ℕ) →
    ((k : ℕ) → a ≤ k → k < a + n → f k ≡ None) → filter_map f (range_with_len a n) ≡ []
filter_map-empty f zero a none = refl
filter_map-empty f (suc n) a none =
    ap (λ o. cons_option o (filter_map f (range_with_len (a + 1) n)))
    (none a (omega arith) (omega arith))
    ∙ filter_map-empty f n (a + 1) (λ k ge lt. none k (omega (arith, ge)) (omega (arith, lt)))

pub flat_map-empty : {X Y : Type 0} (f : X → List Y) → ((x : X) → f x ≡ []) → (xs : List X) →
    flat_map f xs ≡ []
flat_map-empty f none [] = refl
flat_map-empty f none (x ∷ xs) = ap (λ r. r ++ flat_map f xs) (none x) ∙ flat_map-empty f none xs
