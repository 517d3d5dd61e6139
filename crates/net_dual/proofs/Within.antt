-- Sums of numbers within bounds.
use Rattle.std.proofs.Common.{ℕ, ◌≡◌, ◌+◌, ◌*◌, ◌≤◌, Bool, true, false, cond, ℤ, pos, ◌+ℤ◌, ◌-ℤ◌}
use Rattle.std.proofs.Common.{List, [], ◌∷◌, All, count_by, sum_by, refl, ap, arith, inl, inr}
use Rattle.std.specs.List.{enumerate_from}
use Rattle.std.proofs.lemmas.Int.{ints}
use Rattle.std.proofs.lemmas.Bool.{cases_Bool}
use Rattle.std.proofs.lemmas.List.Elements.{All-head, All-tail}
use Rattle.std.proofs.lemmas.List.Sums.{sum_by-cons}
use Rattle.pra_list.proofs.Counts.{count-cons, count-yes, count-no, none-count}
use Rattle.net_dual.specs.Priced.{total, pay, most_price}
use Rattle.net_dual.specs.Small.{IsWithin}

pub within-more : (m n : ℕ) (z : ℤ) → m ≤ n → IsWithin m z → IsWithin n z
within-more m n z le w = let low = w.low in let high = w.high in
    record { low = omega (arith, ints, le, low); high = omega (arith, ints, le, high) }

pub within-add : (m n : ℕ) (y z : ℤ) → IsWithin m y → IsWithin n z → IsWithin (m + n) (y +ℤ z)
within-add m n y z a b =
    let al = a.low in
    let ah = a.high in
    let bl = b.low in
    let bh = b.high in
    record { low = omega (arith, ints, al, bl); high = omega (arith, ints, ah, bh) }

pub within-sub : (m n : ℕ) (y z : ℤ) → IsWithin m y → IsWithin n z → IsWithin (m + n) (y -ℤ z)
within-sub m n y z a b =
    let al = a.low in
    let ah = a.high in
    let bl = b.low in
    let bh = b.high in
    record { low = omega (arith, ints, al, bh); high = omega (arith, ints, ah, bl) }

pub within-pos : (m n : ℕ) → m ≤ n → IsWithin n (pos m)
within-pos m n le = record { low = omega (arith, ints); high = omega (arith, ints, le) }

pub within-pay : (b : Bool) (n : ℕ) (z : ℤ) → IsWithin n z → IsWithin (cond b n 0) (pay b z)
within-pay true n z w = w
within-pay false n z w = within-pos 0 0 (omega arith)

pub within-total : {X : Type 0} (f : X → ℤ) (g : X → ℕ) (xs : List X)
    → All (λ x. IsWithin (g x) (f x)) xs → IsWithin (sum_by g xs) (total f xs)
within-total f g [] h = within-pos 0 0 (omega arith)
within-total f g (x ∷ xs) h =
    let one = All-head (λ x. IsWithin (g x) (f x)) x xs h in
    let more = within-total f g xs (All-tail (λ x. IsWithin (g x) (f x)) x xs h) in
    let sum = sum_by-cons g x xs in
    within-more (g x + sum_by g xs) (sum_by g (x ∷ xs)) (total f (x ∷ xs)) (omega (arith, sum))
    (within-add (g x) (sum_by g xs) (f x) (total f xs) one more)

-- where what passes counts as the greatest price
pub sum_passing : {X : Type 0} (p : X → Bool) (xs : List X)
    → sum_by (λ x. cond (p x) most_price 0) xs ≡ most_price * count_by p xs
sum_passing p [] = refl
sum_passing p (x ∷ xs) =
    let a = sum_by-cons (λ x. cond (p x) most_price 0) x xs in
    let b = count-cons p x xs in
    let more = sum_passing p xs in
    let one = paid (p x) in
    omega (arith, a, b, more, one)
  where
    paid : (b : Bool) → cond b most_price 0 ≡ most_price * cond b 1 0
    paid true = refl
    paid false = refl

-- where one passes at most
pub sum_once : {X : Type 0} (p : X → Bool) (k : ℕ) (xs : List X) → count_by p xs ≤ 1
    → sum_by (λ x. cond (p x) k 0) xs ≤ k
sum_once p k [] h = omega arith
sum_once {X = X} p k (x ∷ xs) h = elim (cases_Bool (p x))
    as (λ _. sum_by (λ x. cond (p x) k 0) (x ∷ xs) ≤ k) [
      | inl is ↦
          let a = sum_by-cons (λ x. cond (p x) k 0) x xs in
          let one = count-yes p x xs is in
          let none = sum_never xs (none-count p xs (omega (arith, one, h))) in
          let here : cond (p x) k 0 ≡ k = ap (λ b. cond b k 0) is in
          omega (arith, a, none, here)
      | inr no_ ↦
          let a = sum_by-cons (λ x. cond (p x) k 0) x xs in
          let same = count-no p x xs no_ in
          let more = sum_once p k xs (omega (arith, same, h)) in
          let here : cond (p x) k 0 ≡ 0 = ap (λ b. cond b k 0) no_ in
          omega (arith, a, more, here)
    ]
  where
    sum_never : (ys : List X) → All (λ y. p y ≡ false) ys → sum_by (λ x. cond (p x) k 0) ys ≡ 0
    sum_never [] h = refl
    sum_never (y ∷ ys) h =
        let a = sum_by-cons (λ x. cond (p x) k 0) y ys in
        let more = sum_never ys (All-tail (λ y. p y ≡ false) y ys h) in
        let here : cond (p y) k 0 ≡ 0 = ap (λ b. cond b k 0) (All-head (λ y. p y ≡ false) y ys h) in
        omega (arith, a, more, here)

pub count-numbered : {X : Type 0} (p : X → Bool) (n : ℕ) (xs : List X)
    → count_by (λ (x : ℕ × X). p x.1) (enumerate_from n xs) ≡ count_by p xs
count-numbered p n [] = refl
count-numbered {X} p n (x ∷ xs) =
    let a = count-cons (λ (x : ℕ × X). p x.1) (n, x) (enumerate_from (n + 1) xs) in
    let b = count-cons p x xs in
    let more = count-numbered p (n + 1) xs in
    omega (arith, a, b, more)
