-- Sums over the strands of a variable.
use Rattle.std.proofs.Common.{ℕ, zero, suc, ◌≡◌, ◌+◌, ◌<◌, Bool, true, false}
use Rattle.std.proofs.Common.{ℤ, pos, ◌≤ℤ◌, ◌+ℤ◌, List, [], ◌∷◌, length, get_or, All}
use Rattle.std.proofs.Common.{take, drop, eqb, refl, sym, ap, ◌∙◌, subst, arith, inl, inr}
use Rattle.std.specs.Prelude.{◌||◌, nat_eq}
use Rattle.std.specs.List.{range_with_len, AllPairs}
use Rattle.std.proofs.lemmas.Int.{ints}
use Rattle.std.proofs.lemmas.Bool.{cases_eq, eq-eqb, ne_eqb, eqb-true}
use Rattle.std.proofs.lemmas.List.FromFn.{length-range_with_len, get_or-range_with_len}
use Rattle.pra_base.specs.declared.ids.Place.{Place}
use Rattle.net_cost.specs.declared.weights.Weights.{Weights}
use Rattle.net_form.specs.declared.net.Net.{Net}
use Rattle.net_dual.specs.Priced.{total, pay, cost_by_weights}
use Rattle.net_dual.proofs.FreeBound.{free_path}
use Rattle.net_dual.proofs.Totals.{total-add, total-agree, total-nothing, look-up-from}
use Rattle.al_laws.specs.Parts.{of_variable}
use Rattle.al_iter.specs.SettleState.{among, AreStrandsOf}
use Rattle.al_iter.specs.SettleSums.{free_price}
use Rattle.al_iter.proofs.SettleIndex.{none_among}

-- ---- what a strand pays

pub pays_something : (net : Net) (w : Weights) (s : ℕ) (ps : List Place)
    → pos 0 ≤ℤ free_price net w s ps
pays_something net w s ps =
    let free = free_path net (cost_by_weights net w) s ps in omega (arith, ints, free)

-- ---- one more strand

pub total_more : (f : ℕ → ℤ) (xs : List ℕ) (i : ℕ) → i < length xs
    → total f (take (i + 1) xs) ≡ total f (take i xs) +ℤ f (get_or xs i 0)
total_more f [] i lt = absurd (omega (arith, lt))
total_more f (x ∷ xs) zero lt = omega (arith, ints)
total_more f (x ∷ xs) (suc i) lt =
    let more = total_more f xs i (omega (arith, lt)) in
    let e : suc i + 1 ≡ suc (i + 1) = omega arith in
    let moved = ap (λ k. total f (take k (x ∷ xs))) e in
    omega (arith, ints, more, moved)

pub among_take : (xs : List ℕ) (i s : ℕ) → i < length xs
    → among (take (i + 1) xs) s ≡ (among (take i xs) s || nat_eq s (get_or xs i 0))
among_take [] i s lt = absurd (omega (arith, lt))
among_take (x ∷ xs) zero s lt = or_false (nat_eq s x)
  where
    or_false : (b : Bool) → (b || false) ≡ b
    or_false true = refl
    or_false false = refl
among_take (x ∷ xs) (suc i) s lt =
    ap (λ k. among (take k (x ∷ xs)) s) (let e : suc i + 1 ≡ suc (i + 1) = omega arith in e)
    ∙ ap (λ b. nat_eq s x || b) (among_take xs i s (omega (arith, lt)))
    ∙ or_assoc (nat_eq s x) (among (take i xs) s) (nat_eq s (get_or xs i 0))
  where
    or_assoc : (a b c : Bool) → (a || (b || c)) ≡ ((a || b) || c)
    or_assoc true b c = refl
    or_assoc false b c = refl

pub among_drop : (xs : List ℕ) (i s : ℕ) → i < length xs
    → among (drop i xs) s ≡ (nat_eq s (get_or xs i 0) || among (drop (i + 1) xs) s)
among_drop [] i s lt = absurd (omega (arith, lt))
among_drop (x ∷ xs) zero s lt = refl
among_drop (x ∷ xs) (suc i) s lt = among_drop xs i s (omega (arith, lt))
    ∙ ap (λ k. nat_eq s (get_or xs i 0) || among (drop k (x ∷ xs)) s)
    (let e : suc (i + 1) ≡ suc i + 1 = omega arith in e)

-- what holds of each of them
pub of_each : (P : ℕ → Type 0) (xs : List ℕ) → All P xs → (s : ℕ) → among xs s ≡ true → P s
of_each P [] all s is = absurd (no s is)
  where
    no : (s : ℕ) → false ≡ true → ⊥
    no s e = cc
of_each P (x ∷ xs) all s is = elim (cases_eq s x) as (λ _. P s) [
  | inl same ↦ subst P (sym same) (all 0 x (omega arith))
  | inr other ↦ of_each P xs (λ k d lt. all (suc k) d (omega (arith, lt))) s
      (sym (ap (λ b. b || among xs s) (ne_eqb s x other)) ∙ is)
]

pub is_among : (xs : List ℕ) (i d : ℕ) → i < length xs → among xs (get_or xs i d) ≡ true
is_among [] i d lt = absurd (omega (arith, lt))
is_among (x ∷ xs) zero d lt = ap (λ b. b || among xs x) (eq-eqb x x refl)
is_among (x ∷ xs) (suc i) d lt =
    ap (λ b. nat_eq (get_or xs i d) x || b) (is_among xs i d (omega (arith, lt)))
    ∙ or_true (nat_eq (get_or xs i d) x)
  where
    or_true : (b : Bool) → (b || true) ≡ true
    or_true true = refl
    or_true false = refl

-- ---- those of a rising list, each once

tail_rising : (x : ℕ) (xs : List ℕ) → AllPairs (λ s r. s < r) (x ∷ xs)
    → AllPairs (λ s r. s < r) xs
tail_rising x xs h i j d lt in_ = h (suc i) (suc j) d (omega (arith, lt)) (omega (arith, in_))

head_apart : (x : ℕ) (xs : List ℕ) → AllPairs (λ s r. s < r) (x ∷ xs) → among xs x ≡ false
head_apart x xs h = none_among xs x (λ k d lt same.
    let less = h 0 (suc k) d (omega arith) (omega (arith, lt)) in omega (arith, same, less))

pub take_apart : (xs : List ℕ) (i : ℕ) → AllPairs (λ s r. s < r) xs → i < length xs
    → among (take i xs) (get_or xs i 0) ≡ false
take_apart [] i h lt = absurd (omega (arith, lt))
take_apart (x ∷ xs) zero h lt = refl
take_apart (x ∷ xs) (suc i) h lt =
    let less = h 0 (suc i) 0 (omega arith) lt in
    ap (λ b. b || among (take i xs) (get_or xs i 0))
    (ne_eqb (get_or xs i 0) x (λ same. omega (arith, same, less)))
    ∙ take_apart xs i (tail_rising x xs h) (omega (arith, lt))

pub drop_apart : (xs : List ℕ) (i : ℕ) → AllPairs (λ s r. s < r) xs → i < length xs
    → among (drop (i + 1) xs) (get_or xs i 0) ≡ false
drop_apart [] i h lt = absurd (omega (arith, lt))
drop_apart (x ∷ xs) zero h lt = head_apart x xs h
drop_apart (x ∷ xs) (suc i) h lt =
    ap (λ k. among (drop k (x ∷ xs)) (get_or xs i 0))
    (let e : suc i + 1 ≡ suc (i + 1) = omega arith in e)
    ∙ drop_apart xs i (tail_rising x xs h) (omega (arith, lt))

-- ---- the sum over them is the sum over all strands that are among them

module _ (f : ℕ → ℤ) (n : ℕ) where
  abbrev ns : List ℕ
  ns = range_with_len 0 n

  pay_either : (a b : Bool) (z : ℤ) → (a ≡ true → b ≡ false) → pay (a || b) z ≡ pay a z +ℤ pay b z
  pay_either true b z apart = let none = ap (λ b. pay b z) (apart refl) in omega (arith, ints, none)
  pay_either false b z apart = omega (arith, ints)

  look-up : (x : ℕ) → x < n → total (λ s. pay (nat_eq s x) (f s)) ns ≡ f x
  look-up x lt =
      total-agree (λ s. pay (nat_eq s x) (f s)) (λ s. pay (eqb x s) (f s)) ns
      (λ k d in_. turned (get_or ns k d))
      ∙ sym (look-up-from f x 0 n (omega arith) (λ past. absurd (omega (arith, past, lt))))
    where
      turned : (s : ℕ) → pay (nat_eq s x) (f s) ≡ pay (eqb x s) (f s)
      turned s = elim (cases_eq s x) as (λ _. pay (nat_eq s x) (f s) ≡ pay (eqb x s) (f s)) [
        | inl same ↦ ap (λ b. pay b (f s)) (eq-eqb s x same ∙ sym (eq-eqb x s (sym same)))
        | inr other ↦ ap (λ b. pay b (f s)) (ne_eqb s x other
            ∙ sym (ne_eqb x s (λ same. other (sym same))))
      ]

  pub sum_among : (xs : List ℕ) → All (λ s. s < n) xs → AllPairs (λ s r. s < r) xs
      → total (λ s. pay (among xs s) (f s)) ns ≡ total f xs
  sum_among [] there rising = total-nothing ns
  sum_among (x ∷ xs) there rising =
      let more = sum_among xs (λ k d lt. there (suc k) d (omega (arith, lt)))
      (tail_rising x xs rising) in
      let one = look-up x (there 0 x (omega arith)) in
      let both = total-add (λ s. pay (nat_eq s x) (f s)) (λ s. pay (among xs s) (f s)) ns in
      let split = total-agree (λ s. pay (among (x ∷ xs) s) (f s))
      (λ s. pay (nat_eq s x) (f s) +ℤ pay (among xs s) (f s)) ns
      (λ k d in_. pay_either (nat_eq (get_or ns k d) x) (among xs (get_or ns k d))
      (f (get_or ns k d)) (λ is. ap (among xs) (eqb-true (get_or ns k d) x is)
      ∙ head_apart x xs rising)) in
      omega (arith, ints, more, one, both, split)

-- what the strands of a variable pay, strand by strand
pub sum_of_variable : (net : Net) (v : ℕ) (strands : List ℕ) → AreStrandsOf net v strands
    → (f : ℕ → ℤ)
    → total (λ s. pay (of_variable net v s) (f s)) (range_with_len 0 (length net.strands))
    ≡ total f strands
sum_of_variable net v strands are f =
    total-agree (λ s. pay (of_variable net v s) (f s)) (λ s. pay (among strands s) (f s))
    (range_with_len 0 (length net.strands))
    (λ k d lt.
    let long = length-range_with_len 0 (length net.strands) in
    let in_ : k < length net.strands = omega (arith, lt, long) in
    let at = get_or-range_with_len 0 (length net.strands) k d in_ in
    ap (λ b. pay b (f (get_or (range_with_len 0 (length net.strands)) k d)))
    (are.each (get_or (range_with_len 0 (length net.strands)) k d) (omega (arith, at, in_))))
    ∙ sum_among f (length net.strands) strands are.are.there are.are.rising
