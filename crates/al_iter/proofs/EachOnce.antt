-- A list of numbers in which each stands once.
use Rattle.std.proofs.Common.{ℕ, ◌≡◌, ◌≢◌, ◌<◌, List, slice_get, All, Some}
use Rattle.std.proofs.Common.{IsPermutation, eqb, refl, sym, ap, ◌∙◌, arith}
use Rattle.std.specs.List.{range_with_len}
use Rattle.std.proofs.lemmas.Bool.{eq-eqb, ne_eqb}
use Rattle.std.proofs.lemmas.List.FromFn.{length-range_with_len, get_or-range_with_len}
use Rattle.std.proofs.lemmas.List.Sorted.{All-permutation}
use Rattle.std.proofs.lemmas.Option.{get_or_from_slice_get, slice_get_within}
use Rattle.pra_list.proofs.Among.{at_most_one, sum_one}
use Rattle.pra_list.proofs.Counts.{bit, count-same}

module _ (n : ℕ) (order : List ℕ) (each : IsPermutation (range_with_len 0 n) order) where
  -- each is one of the numbers
  pub below : (k s : ℕ) → slice_get order k ≡ Some s → s < n
  below k s is =
      let all : All (λ s. s < n) order = All-permutation (λ s. s < n) (range_with_len 0 n) order
      each (λ k d lt.
      let long = length-range_with_len 0 n in
      let at = get_or-range_with_len 0 n k d (omega (arith, lt, long)) in
      omega (arith, at, lt, long)) in
      let here = all k 0 (slice_get_within order k s is) in
      let at = get_or_from_slice_get order k s 0 is in
      omega (arith, here, at)

  -- none stands at two places
  pub one_place : (i j s : ℕ) → slice_get order i ≡ Some s → slice_get order j ≡ Some s → i ≡ j
  one_place i j s one two =
      let same = count-same (eqb s) (range_with_len 0 n) order each in
      let few = sum_one (λ k. bit (eqb s k)) s 0 n
      (λ k other. ap bit (ne_eqb s k (λ is. other (sym is))))
      (let is = ap bit (eq-eqb s s refl) in omega (arith, is)) in
      at_most_one (eqb s) order (omega (arith, same, few)) i j s s one (eq-eqb s s refl) two
      (eq-eqb s s refl)

  pub others : (i j s r : ℕ) → i < j → slice_get order i ≡ Some s → slice_get order j ≡ Some r
      → s ≢ r
  others i j s r lt one two same =
      let k = one_place i j s one (two ∙ ap Some (sym same)) in
      omega (arith, lt, k)
