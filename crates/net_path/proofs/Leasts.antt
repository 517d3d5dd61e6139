-- The least of costs, one more at a time.
use Rattle.std.proofs.Common.{ℕ, ◌≡◌, ◌⊎◌, ◌<◌, ◌≤◌, ◌+◌, ℤ, ◌≤ℤ◌, List, arith, inl, inr}
use Rattle.std.proofs.lemmas.Int.{ints}
use borrow.Author.Count.{below_more}
use Rattle.net_path.specs.Ways.{at, IsLeastAmong, IsLeastOfFour, IsDebt, AreDebts}

pub least_of_one : (costs : List ℤ) (i : ℕ) (z : ℤ) → z ≡ at costs i → IsLeastAmong costs i 1 z
least_of_one costs i z is = record {
  below = λ k lt. let e : k ≡ 0 = omega arith in let s : i + 0 ≡ i = omega arith in
      rw (e, s, is) (omega (arith, ints));
  place = 0;
  within = omega arith;
  met = let s : i + 0 ≡ i = omega arith in rw (s, is) (omega (arith, ints));
}

pub least_of_more : (costs : List ℤ) (i n : ℕ) (old new z : ℤ) → IsLeastAmong costs i n old
    → new ≡ at costs (i + n) → z ≤ℤ old → z ≤ℤ new → (z ≡ old) ⊎ (z ≡ new)
    → IsLeastAmong costs i (n + 1) z
least_of_more costs i n old new z least is one other met = record {
  below = λ k lt. below_more (λ k. z ≤ℤ at costs (i + k)) n
      (λ k lt. let b = least.below k lt in omega (arith, ints)) (rw is at other) k lt;
  place = elim met [ inl e ↦ least.place | inr e ↦ n ];
  within = elim met as (λ m. elim m [ inl e ↦ least.place | inr e ↦ n ] < n + 1)
      [ inl e ↦ omega (arith, least.within) | inr e ↦ omega arith ];
  met = elim met as (λ m. at costs (i + elim m [ inl e ↦ least.place | inr e ↦ n ]) ≤ℤ z) [
    | inl e ↦ let m = least.met in
        omega (arith, ints)
    | inr e ↦ rw (← is) (omega (arith, ints))
  ];
}

pub least_of_four_same : (a b c d e f g h z : ℤ) → a ≡ e → b ≡ f → c ≡ g → d ≡ h
    → IsLeastOfFour a b c d z → IsLeastOfFour e f g h z
least_of_four_same a b c d e f g h z p q r s least = rw (← p, ← q, ← r, ← s) least

pub least_within : (costs : List ℤ) (i n : ℕ) (z : ℤ) → 0 < n → i + n ≤ 14 → AreDebts costs
    → IsLeastAmong costs i n z → IsDebt z
least_within costs i n z some few debts least =
    let first = least.below 0 some in
    let top = debts (i + 0) (omega arith) in
    let met = least.met in
    let bottom = debts (i + least.place) (omega (arith, least.within)) in
    (omega (arith, ints, met, bottom), omega (arith, ints, first, top))
