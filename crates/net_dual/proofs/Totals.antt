-- Sums of signed numbers, in any order and by key.
use Rattle.std.proofs.Common.{ℕ, zero, suc, ◌+◌, ◌*◌, ◌<◌, ◌≤◌, ◌≡◌, Bool, true, false, ◌&&◌, eqb}
use Rattle.std.proofs.Common.{ℤ, pos, ◌+ℤ◌, ◌-ℤ◌, ◌≤ℤ◌}
use Rattle.std.proofs.Common.{List, [], ◌∷◌, ◌++◌, length, get_or, take, count_by, sum_by, sum}
use Rattle.std.proofs.Common.{slice_index, IsPermutation, refl, sym, ap, ◌∙◌}
use Rattle.std.proofs.Common.{All, arith, inl, inr, append_assoc, length-append, length-take}
use Rattle.std.proofs.lemmas.Int.{ints}
use Rattle.std.proofs.lemmas.List.{take_more}
use Rattle.std.proofs.lemmas.Bool.{cases_eq, eq-eqb, ne_eqb}
use Rattle.std.proofs.lemmas.List.Elements.{All-head, All-tail}
use Rattle.std.proofs.lemmas.List.Sums.{sum_by-cons}
use Rattle.std.proofs.lemmas.List.Sorted.{sum_by-IsPermutation}
use Rattle.std.proofs.Math.Seq.{get_or-append_seam}
use Rattle.std.specs.List.{range_with_len, enumerate_from}
use borrow.Author.Differences.{up, down}
use Rattle.pra_list.proofs.Counts.{bit, count-cons}
use Rattle.pra_list.proofs.Growing.{enumerate_more}
use Rattle.net_dual.specs.Priced.{total, pay}

pub total-append : {X : Type 0} (f : X → ℤ) → (xs ys : List X)
    → total f (xs ++ ys) ≡ total f xs +ℤ total f ys
total-append f [] ys = omega (arith, ints)
total-append f (x ∷ xs) ys = let more = total-append f xs ys in omega (arith, ints, more)

pub total-add : {X : Type 0} (f g : X → ℤ) → (xs : List X)
    → total (λ x. f x +ℤ g x) xs ≡ total f xs +ℤ total g xs
total-add f g [] = omega (arith, ints)
total-add f g (x ∷ xs) = let more = total-add f g xs in omega (arith, ints, more)

pub total-nothing : {X : Type 0} → (xs : List X) → total (λ x. pos 0) xs ≡ pos 0
total-nothing [] = refl
total-nothing (x ∷ xs) = let more = total-nothing xs in omega (arith, ints, more)

pub total-le : {X : Type 0} (f g : X → ℤ) → (xs : List X) → All (λ x. f x ≤ℤ g x) xs
    → total f xs ≤ℤ total g xs
total-le f g [] h = omega (arith, ints)
total-le f g (x ∷ xs) h =
    let one = All-head (λ x. f x ≤ℤ g x) x xs h in
    let more = total-le f g xs (All-tail (λ x. f x ≤ℤ g x) x xs h) in
    omega (arith, ints, one, more)

pub total-swap : {X Y : Type 0} (g : X → Y → ℤ) → (xs : List X) (ys : List Y)
    → total (λ x. total (g x) ys) xs ≡ total (λ y. total (λ x. g x y) xs) ys
total-swap g [] ys = sym (total-nothing ys)
total-swap g (x ∷ xs) ys =
    let more = total-swap g xs ys in
    let sum = total-add (g x) (λ y. total (λ x. g x y) xs) ys in
    omega (arith, ints, more, sum)

pub total-agree : {X : Type 0} (f g : X → ℤ) → (xs : List X) → All (λ x. f x ≡ g x) xs
    → total f xs ≡ total g xs
total-agree f g [] h = refl
total-agree f g (x ∷ xs) h =
    let one = All-head (λ x. f x ≡ g x) x xs h in
    let more = total-agree f g xs (All-tail (λ x. f x ≡ g x) x xs h) in
    omega (arith, ints, one, more)

pub total-sub : {X : Type 0} (f g : X → ℤ) → (xs : List X)
    → total (λ x. f x -ℤ g x) xs ≡ total f xs -ℤ total g xs
total-sub f g [] = omega (arith, ints)
total-sub f g (x ∷ xs) = let more = total-sub f g xs in omega (arith, ints, more)

pub total-pos : {X : Type 0} (f : X → ℕ) → (xs : List X)
    → total (λ x. pos (f x)) xs ≡ pos (sum_by f xs)
total-pos f [] = refl
total-pos f (x ∷ xs) = let more = total-pos f xs in let s = sum_by-cons f x xs in
    omega (arith, ints, more, s)

-- z as many times
abbrev pub times : ℕ → ℤ → ℤ
times zero z = pos 0
times (suc n) z = z +ℤ times n z

times-add : (m n : ℕ) (z : ℤ) → times (m + n) z ≡ times m z +ℤ times n z
times-add zero n z =
    let e : 0 + n ≡ n = omega arith in
    let h : times (0 + n) z ≡ times n z = ap (λ k. times k z) e in
    omega (arith, ints, h)
times-add (suc m) n z =
    let e : suc m + n ≡ suc (m + n) = omega arith in
    let h : times (suc m + n) z ≡ z +ℤ times (m + n) z = ap (λ k. times k z) e in
    let more = times-add m n z in
    omega (arith, ints, h, more)

times-pay : (b : Bool) (z : ℤ) → times (bit b) z ≡ pay b z
times-pay true z = omega (arith, ints)
times-pay false z = refl

pub total-pay : {X : Type 0} (p : X → Bool) (z : ℤ) → (xs : List X)
    → total (λ x. pay (p x) z) xs ≡ times (count_by p xs) z
total-pay p z [] = refl
total-pay p z (x ∷ xs) =
    let more = total-pay p z xs in
    let one = times-pay (p x) z in
    let sum = times-add (bit (p x)) (count_by p xs) z in
    let count : times (count_by p (x ∷ xs)) z ≡ times (bit (p x) + count_by p xs) z =
    ap (λ k. times k z) (count-cons p x xs) in
    omega (arith, ints, more, one, sum, count)

pub times-once : (n : ℕ) (z : ℤ) → n ≤ 1 → pos 0 ≤ℤ z → times n z ≤ℤ z
times-once zero z le h = h
times-once (suc zero) z le h = omega (arith, ints)
times-once (suc (suc n)) z le h = absurd (omega (arith, le))

-- ---- what elements pay by their keys, summed by key

-- a look-up is a sum over all numbers of which one pays
look-up-none : (g : ℕ → ℤ) (k a n : ℕ) → k < a
    → total (λ q. pay (eqb k q) (g q)) (range_with_len a n) ≡ pos 0
look-up-none g k a zero lt = refl
look-up-none g k a (suc n) lt =
    let more = look-up-none g k (a + 1) n (omega (arith, lt)) in
    let one : pay (eqb k a) (g a) ≡ pos 0 = ap (λ b. pay b (g a))
    (ne_eqb k a (λ same. omega (arith, same, lt))) in
    omega (arith, ints, more, one)

pub look-up-from : (g : ℕ → ℤ) (k a n : ℕ) → a ≤ k → (a + n ≤ k → g k ≡ pos 0)
    → g k ≡ total (λ q. pay (eqb k q) (g q)) (range_with_len a n)
look-up-from g k a zero le past = past (omega (arith, le))
look-up-from g k a (suc n) le past = elim (cases_eq k a)
    as (λ _. g k ≡ total (λ q. pay (eqb k q) (g q)) (range_with_len a (suc n))) [
      | inl same ↦
          let one : pay (eqb k a) (g a) ≡ g k = ap (λ b. pay b (g a)) (eq-eqb k a same)
          ∙ ap g (sym same) in
          let none = look-up-none g k (a + 1) n (omega (arith, same)) in
          omega (arith, ints, one, none)
      | inr other ↦
          let one : pay (eqb k a) (g a) ≡ pos 0 = ap (λ b. pay b (g a)) (ne_eqb k a other) in
          let more = look-up-from g k (a + 1) n (omega (arith, le, other))
          (λ h. past (omega (arith, h))) in
          omega (arith, ints, one, more)
    ]

pay-pay : (a b : Bool) (z : ℤ) → pay a (pay b z) ≡ pay (a && b) z
pay-pay true b z = refl
pay-pay false b z = refl

pay-total : {X : Type 0} (a : Bool) (f : X → ℤ) → (xs : List X)
    → pay a (total f xs) ≡ total (λ x. pay a (f x)) xs
pay-total true f xs = refl
pay-total false f xs = sym (total-nothing xs)

-- where a look-up by the key is a sum over all keys
pub total-by_key : {X Q : Type 0} (a : X → Bool) (same : X → Q → Bool) (paid : X → ℤ) (g : Q
    → ℤ) (qs : List Q)
    → ((x : X) → paid x ≡ total (λ q. pay (same x q) (g q)) qs) → (xs : List X)
    → total (λ x. pay (a x) (paid x)) xs ≡ total (λ q. times (count_by (λ x. a x && same x q) xs)
    (g q)) qs
total-by_key a same paid g qs looks xs =
    total-agree (λ x. pay (a x) (paid x)) (λ x. total (λ q. pay (a x && same x q) (g q)) qs) xs
    (λ k d lt.
    let x = get_or xs k d in
    ap (pay (a x)) (looks x)
    ∙ pay-total (a x) (λ q. pay (same x q) (g q)) qs
    ∙ total-agree (λ q. pay (a x) (pay (same x q) (g q))) (λ q. pay (a x && same x q) (g q)) qs
    (λ k d lt. pay-pay (a x) _ _))
    ∙ total-swap (λ x q. pay (a x && same x q) (g q)) xs qs
    ∙ total-agree _ _ qs (λ k d lt. total-pay (λ x. a x && same x (get_or qs k d)) _ xs)

-- in any order
pub total-same : {X : Type 0} (f : X → ℤ) → (xs ys : List X) → IsPermutation xs ys
    → total f ys ≡ total f xs
total-same f xs ys h =
    let one = total-parts f xs in
    let two = total-parts f ys in
    let a = sum_by-IsPermutation (λ x. up (f x)) xs ys h in
    let b = sum_by-IsPermutation (λ x. down (f x)) xs ys h in
    omega (arith, ints, one, two, a, b)
  where
    total-parts : {X : Type 0} (f : X → ℤ) → (xs : List X)
        → total f xs ≡ pos (sum_by (λ x. up (f x)) xs) -ℤ pos (sum_by (λ x. down (f x)) xs)
    total-parts f [] = omega (arith, ints)
    total-parts f (x ∷ xs) =
        let more = total-parts f xs in
        let a = sum_by-cons (λ x. up (f x)) x xs in
        let b = sum_by-cons (λ x. down (f x)) x xs in
        omega (arith, ints, more, a, b)

-- ---- the numbers of a list, by place

range-from : (fs xs : List ℕ)
    → total (λ q. pos (slice_index (fs ++ xs) q)) (range_with_len (length fs) (length xs)) ≡ total
    pos xs
range-from fs [] = refl
range-from fs (x ∷ xs) =
    let one : slice_index (fs ++ x ∷ xs) (length fs) ≡ x = get_or-append_seam fs x xs 0 in
    let more = range-from (fs ++ x ∷ []) xs in
    let more2 = rw (append_assoc, length-append) at more in
    omega (arith, ints, ap pos one, more2)

pub range-sum : (xs : List ℕ)
    → total (λ q. pos (slice_index xs q)) (range_with_len 0 (length xs)) ≡ pos (sum xs)
range-sum xs = range-from [] xs ∙ total-pos (λ x. x) xs

pub enumerated-range : {X : Type 0} (g : ℕ → ℤ) (k : ℕ) (xs : List X)
    → total (λ m. g m.0) (enumerate_from k xs) ≡ total g (range_with_len k (length xs))
enumerated-range g k [] = refl
enumerated-range g k (x ∷ xs) = let more = enumerated-range g (k + 1) xs in
    omega (arith, ints, more)

-- one element more of the first n, with its number
pub sum_more : {X : Type 0} (g : (ℕ × X) → ℤ) (xs : List X) (n : ℕ) (d : X) → n < length xs
    → total g (enumerate_from 0 (take (n + 1) xs))
    ≡ total g (enumerate_from 0 (take n xs)) +ℤ g (n, get_or xs n d)
sum_more g xs n d lt =
    let y = get_or xs n d in
    let more = ap (λ ys. total g (enumerate_from 0 ys)) (take_more xs n d lt) in
    let grown = ap (total g) (enumerate_more 0 (take n xs) y) in
    let sum = total-append g (enumerate_from 0 (take n xs)) ((0 + length (take n xs), y) ∷ []) in
    let long = length-take n xs in
    let at : 0 + length (take n xs) ≡ n = omega (arith, long, lt) in
    let one : g (0 + length (take n xs), y) ≡ g (n, y) = ap (λ k. g (k, y)) at in
    omega (arith, ints, more, grown, sum, one)

pub sum_by-scale : {X : Type 0} (f : X → ℕ) → (xs : List X)
    → sum_by (λ x. 1024 * f x) xs ≡ 1024 * sum_by f xs
sum_by-scale f [] = refl
sum_by-scale f (x ∷ xs) =
    let a = sum_by-cons f x xs in
    let b = sum_by-cons (λ x. 1024 * f x) x xs in
    let more = sum_by-scale f xs in
    omega (arith, a, b, more)

pub total-scale : {X : Type 0} (f : X → ℕ) → (xs : List X)
    → total (λ x. pos (1024 * f x)) xs ≡ pos (1024 * sum_by f xs)
total-scale f xs = total-pos (λ x. 1024 * f x) xs ∙ ap pos (sum_by-scale f xs)
