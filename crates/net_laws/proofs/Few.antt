-- Numbers that pass a test, counted by what they stand for.
use Rattle.std.proofs.Common.{ℕ, zero, suc, ◌≡◌, ◌+◌, ◌<◌, ◌≤◌, Bool, true, false, not, ◌&&◌, ◌||◌}
use Rattle.std.proofs.Common.{cond, eqb, List, [], ◌∷◌, length, count_by, refl, sym, ap, ◌∙◌, arith}
use Rattle.std.proofs.Common.{inl, inr}
use Rattle.std.specs.List.{list_any, range_with_len}
use Rattle.std.proofs.lemmas.Bool.{and_parts, cases_Bool, false_from_ne_true, false≢true, eqb-true}
use Rattle.std.proofs.lemmas.Bool.{not-true}
use Rattle.pra_list.proofs.Counts.{count-cons, count-yes, count-no}

count_split : (p q : ℕ → Bool) (xs : List ℕ) → count_by p xs ≡
    count_by (λ x. p x && q x) xs + count_by (λ x. p x && not (q x)) xs
count_split p q [] = refl
count_split p q (x ∷ xs) =
    let a = count-cons p x xs in
    let b = count-cons (λ x. p x && q x) x xs in
    let c = count-cons (λ x. p x && not (q x)) x xs in
    let one = by (p x) (q x) in
    let more = count_split p q xs in
    omega (arith, a, b, c, one, more)
  where
    by : (b c : Bool) → cond b 1 0 ≡ cond (b && c) 1 0 + cond (b && not c) 1 0
    by true true = refl
    by true false = refl
    by false c = refl

pub range_none : (p : ℕ → Bool) (a n : ℕ) → ((i : ℕ) → a ≤ i → i < a + n → p i ≡ true → ⊥) →
    count_by p (range_with_len a n) ≡ 0
range_none p a zero none = refl
range_none p a (suc n) none =
    let here = count-no p a (range_with_len (a + 1) n)
    (false_from_ne_true (p a) (none a (omega arith) (omega arith))) in
    let rest = range_none p (a + 1) n (λ i le lt. none i (omega (arith, le)) (omega (arith, lt))) in
    omega (arith, here, rest)

abbrev Apart : (ℕ → Bool) → ℕ → ℕ → Type 0
Apart p a n = (i j : ℕ) → a ≤ i → i < j → j < a + n → p i ≡ true → p j ≡ true → ⊥

range_one : (p : ℕ → Bool) (a n : ℕ) → Apart p a n → count_by p (range_with_len a n) ≤ 1
range_one p a zero apart = omega arith
range_one p a (suc n) apart =
    elim (cases_Bool (p a)) as (λ _. count_by p (range_with_len a (suc n)) ≤ 1) [
      | inl is ↦
          let here = count-yes p a (range_with_len (a + 1) n) is in
          let rest = range_none p (a + 1) n
          (λ j le lt yes. apart a j (omega arith) (omega (arith, le)) (omega (arith, lt)) is yes) in
          omega (arith, here, rest)
      | inr no_ ↦
          let here = count-no p a (range_with_len (a + 1) n) no_ in
          let rest = range_one p (a + 1) n
          (λ i j le less lt. apart i j (omega (arith, le)) less (omega (arith, lt))) in
          omega (arith, here, rest)
    ]

-- where each that passes stands for one of these, and no two for the same, there are no more than
-- these
pub few : (key : ℕ → ℕ) (p : ℕ → Bool) (a n : ℕ) (vs : List ℕ) →
    ((i : ℕ) → a ≤ i → i < a + n → p i ≡ true → list_any (eqb (key i)) vs ≡ true)
    → ((i j : ℕ) → a ≤ i → i < j → j < a + n → p i ≡ true → p j ≡ true → key i ≡ key j → ⊥) →
    count_by p (range_with_len a n) ≤ length vs
few key p a n [] named apart = let none =
    range_none p a n (λ i le lt is. false≢true (named i le lt is)) in omega (arith, none)
few key p a n (v ∷ vs) named apart =
    let q : ℕ → Bool = λ i. eqb (key i) v in
    let both = count_split p q (range_with_len a n) in
    let one = range_one (λ i. p i && q i) a n (λ i j le less lt x y.
    let c = and_parts (p i) (q i) x in
    let d = and_parts (p j) (q j) y in
    apart i j le less lt c.0 d.0 (eqb-true (key i) v c.1 ∙ sym (eqb-true (key j) v d.1))) in
    let rest = few key (λ i. p i && not (q i)) a n vs
    (λ i le lt x. let c = and_parts (p i) (not (q i)) x in left (q i) (list_any (eqb (key i)) vs)
    (not-true (q i) c.1) (named i le lt c.0))
    (λ i j le less lt x y. apart i j le less lt (and_parts (p i) (not (q i)) x).0
    (and_parts (p j) (not (q j)) y).0) in
    omega (arith, both, one, rest)
  where
    left : (x y : Bool) → x ≡ false → (x || y) ≡ true → y ≡ true
    left x y no_ h = sym (ap (λ t. t || y) no_) ∙ h
