-- Sums over places, each of which takes some of a list and none of which takes what another takes.
use Rattle.std.proofs.Common.{◌≡◌, ℕ, zero, suc, ◌+◌, ◌≤◌, Bool, true, false, cond, List, [], ◌∷◌}
use Rattle.std.proofs.Common.{length, filter, sum_by, slice_get, Some, refl, ap, subst, arith}
use Rattle.std.specs.List.{range_with_len, flat_map}
use Rattle.std.proofs.lemmas.List.Sums.{sum_by-cons, sum_by-append}
use Rattle.pra_list.proofs.Among.{sum_zero}

pub sum_flat : {X Y : Type 0} (w : Y → ℕ) (f : X → List Y) (xs : List X) →
    sum_by w (flat_map f xs) ≡ sum_by (λ x. sum_by w (f x)) xs
sum_flat w f [] = refl
sum_flat w f (x ∷ xs) =
    let a = sum_by-append w (f x) (flat_map f xs) in
    let b = sum_by-cons (λ x. sum_by w (f x)) x xs in
    let more = sum_flat w f xs in
    omega (arith, a, b, more)

-- elements of a list against numbers in order
pub sum_in_order : {X : Type 0} (f : X → ℕ) (g : ℕ → ℕ) (a : ℕ) (xs : List X) →
    ((j : ℕ) (x : X) → slice_get xs j ≡ Some x → f x ≤ g (a + j)) → sum_by f xs ≤
    sum_by g (range_with_len a (length xs))
sum_in_order f g a [] le = omega arith
sum_in_order f g a (x ∷ xs) le =
    let one = sum_by-cons f x xs in
    let other = sum_by-cons g a (range_with_len (a + 1) (length xs)) in
    let first : f x ≤ g a = (let e : a + 0 ≡ a = omega arith in
    subst (λ n. f x ≤ g n) e (le 0 x refl)) in
    let more = sum_in_order f g (a + 1) xs (λ j y at. let e : a + suc j ≡ a + 1 + j = omega arith in
    subst (λ n. f y ≤ g n) e (le (suc j) y at)) in
    omega (arith, one, other, first, more)

pub sum_less : (f g : ℕ → ℕ) (a n : ℕ) → ((i : ℕ) → f i ≤ g i) → sum_by f (range_with_len a n) ≤
    sum_by g (range_with_len a n)
sum_less f g a zero le = omega arith
sum_less f g a (suc n) le =
    let one = sum_by-cons f a (range_with_len (a + 1) n) in
    let other = sum_by-cons g a (range_with_len (a + 1) n) in
    let first = le a in
    let more = sum_less f g (a + 1) n le in
    omega (arith, one, other, first, more)

module _ {X : Type 0} (w : X → ℕ) where
  abbrev pub taken : (X → Bool) → List X → ℕ
  taken p xs = sum_by w (filter p xs)

  taken-cons : (p : X → Bool) (x : X) (xs : List X) → taken p (x ∷ xs) ≡
      cond (p x) (w x) 0 + taken p xs
  taken-cons p x xs = by_test (p x)
    where
      by_test : (b : Bool) → sum_by w (cond b (x ∷ filter p xs) (filter p xs)) ≡
          cond b (w x) 0 + taken p xs
      by_test true = sum_by-cons w x (filter p xs)
      by_test false = omega arith

  each_none : (t : ℕ → X → Bool) (a n : ℕ) → sum_by (λ k. taken (t k) []) (range_with_len a n) ≡ 0
  each_none t a n = sum_zero (λ k. taken (t k) []) a n (λ i le. refl)

  each_cons : (t : ℕ → X → Bool) (a n : ℕ) (x : X) (xs : List X) →
      sum_by (λ k. taken (t k) (x ∷ xs)) (range_with_len a n) ≡ sum_by (λ k. cond (t k x) (w x) 0)
      (range_with_len a n) + sum_by (λ k. taken (t k) xs) (range_with_len a n)
  each_cons t a zero x xs = omega arith
  each_cons t a (suc n) x xs =
      let one = sum_by-cons (λ k. taken (t k) (x ∷ xs)) a (range_with_len (a + 1) n) in
      let two = sum_by-cons (λ k. cond (t k x) (w x) 0) a (range_with_len (a + 1) n) in
      let three = sum_by-cons (λ k. taken (t k) xs) a (range_with_len (a + 1) n) in
      let first = taken-cons (t a) x xs in
      let more = each_cons t (a + 1) n x xs in
      omega (arith, one, two, three, first, more)

  -- what none takes twice, and only such as pass u
  pub spread : (t : ℕ → X → Bool) (u : X → Bool) (a n : ℕ) (xs : List X) →
      ((x : X) (v : ℕ) → sum_by (λ k. cond (t k x) v 0) (range_with_len a n) ≤ cond (u x) v 0) →
      sum_by (λ k. taken (t k) xs) (range_with_len a n) ≤ taken u xs
  spread t u a n [] few = let none = each_none t a n in omega (arith, none)
  spread t u a n (x ∷ xs) few =
      let all = each_cons t a n x xs in
      let one = taken-cons u x xs in
      let more = spread t u a n xs few in
      let here = few x (w x) in
      omega (arith, all, one, more, here)

  pub taken_all : (xs : List X) → taken (λ x. true) xs ≡ sum_by w xs
  taken_all [] = refl
  taken_all (x ∷ xs) =
      let one = taken-cons (λ x. true) x xs in
      let two = sum_by-cons w x xs in
      let more = taken_all xs in
      omega (arith, one, two, more)

false_if : (b : Bool) → (b ≡ true → ⊥) → b ≡ false
false_if true f = absurd (f refl)
false_if false f = refl

-- at most one number has a property that two numbers never have
pub one_bit : (p : ℕ → Bool) (v a n : ℕ) → ((i j : ℕ) → p i ≡ true → p j ≡ true → i ≡ j) →
    sum_by (λ k. cond (p k) v 0) (range_with_len a n) ≤ v
one_bit p v a zero one = omega arith
one_bit p v a (suc n) one = by_first (p a) refl (one_bit p v (a + 1) n one)
  where
    by_first : (b : Bool) → p a ≡ b → sum_by (λ k. cond (p k) v 0) (range_with_len (a + 1) n) ≤ v →
        sum_by (λ k. cond (p k) v 0) (a ∷ range_with_len (a + 1) n) ≤ v
    by_first true e more =
        let all = sum_by-cons (λ k. cond (p k) v 0) a (range_with_len (a + 1) n) in
        let first = ap (λ b. cond b v 0) e in
        let rest = sum_zero (λ k. cond (p k) v 0) (a + 1) n
        (λ i le. ap (λ b. cond b v 0)
        (false_if (p i) (λ t. let same = one i a t e in omega (arith, le, same)))) in
        omega (arith, all, first, rest)
    by_first false e more =
        let all = sum_by-cons (λ k. cond (p k) v 0) a (range_with_len (a + 1) n) in
        let first = ap (λ b. cond b v 0) e in
        omega (arith, all, first, more)
