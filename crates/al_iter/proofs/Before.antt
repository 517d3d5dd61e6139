-- Who is before a place of an order.
use Rattle.std.proofs.Common.{ℕ, suc, ◌≡◌, ◌+◌, ◌≤◌, Bool, false, ◌||◌, eqb, List, [], ◌∷◌}
use Rattle.std.proofs.Common.{◌++◌, get_or, slice_get, take, Some, IsPermutation, sym, ap}
use Rattle.std.proofs.Common.{◌∙◌, arith, take-suc}
use Rattle.std.specs.List.{range_with_len, list_any}
use Rattle.std.proofs.Math.Bool.{or-false}
use Rattle.std.proofs.lemmas.Bool.{ne_eqb}
use Rattle.std.proofs.lemmas.List.{get_or-take, length-take}
use Rattle.std.proofs.lemmas.List.Folds.{list_any-append, list_any_none}
use Rattle.std.proofs.lemmas.Option.{get_or_from_slice_get, slice_get-get_or, slice_get_within}
use Rattle.al_laws.specs.Laid.{was_laid}
use Rattle.al_iter.proofs.EachOnce.{others}

-- one place on there is one more
pub before_next : (order : List ℕ) (k s x : ℕ) → slice_get order k ≡ Some s
    → was_laid order (k + 1) x ≡ (was_laid order k x || eqb x s)
before_next order k s x is =
    let in_ = slice_get_within order k s is in
    let next : k + 1 ≡ suc k = omega arith in
    ap (λ n. was_laid order n x) next
    ∙ ap (is_among x) (take-suc order k 0 in_
    ∙ ap (λ y. take k order ++ y ∷ []) (get_or_from_slice_get order k s 0 is))
    ∙ list_any-append (eqb x) (take k order) (s ∷ [])
    ∙ ap (λ b. was_laid order k x || b) (or-false (eqb x s))
  where
    is_among : ℕ → List ℕ → Bool
    is_among x xs = list_any (eqb x) xs

-- nobody is before himself
pub not_before : (n : ℕ) (order : List ℕ) → IsPermutation (range_with_len 0 n) order
    → (j k s : ℕ) → j ≤ k → slice_get order k ≡ Some s → was_laid order j s ≡ false
not_before n order each j k s le is = list_any_none (eqb s) (take j order) (λ i d lt.
    let long = length-take j order in
    let in_ = slice_get_within order k s is in
    let at = get_or-take j order i d (omega (arith, long, lt)) in
    ne_eqb s (get_or (take j order) i d) (λ same.
    others n order each i k (get_or order i d) s (omega (arith, long, lt, le))
    (slice_get-get_or order i d (omega (arith, long, lt, le, in_))) is (sym (same ∙ at))))
