-- Elements of lists that are joined, and counts.
use Rattle.std.proofs.Common.{◌≡◌, ℕ, zero, suc, ◌+◌, ◌<◌, ◌≤◌, Bool, true, false, cond, inl, inr}
use Rattle.std.proofs.Common.{⊎_elim, ◌⊎◌, List, [], ◌∷◌, ◌++◌, length, take, Some, refl, sym, ap}
use Rattle.std.proofs.Common.{◌∙◌, subst, arith}
use Rattle.std.specs.Prelude.{slice_get, count_by}
use Rattle.std.proofs.lemmas.Bool.{false_from_ne_true}
use Rattle.pra_list.proofs.Counts.{count-cons, count-yes, count-no}
use Rattle.pra_list.proofs.Options.{none_some, some_same}

-- ---- two lists one after the other

-- an element that stands in the second list
pub record InBack {A : Type 0} (xs ys : List A) (k : ℕ) (z : A) : Type 0 where
  pub place : ℕ
  pub number : k ≡ length xs + place
  pub there : slice_get ys place ≡ Some z

pub got_either : {A : Type 0} (xs ys : List A) (k : ℕ) (z : A) → slice_get (xs ++ ys) k ≡ Some z →
    (slice_get xs k ≡ Some z) ⊎ InBack xs ys k z
got_either [] ys k z e = inr (record { place = k; number = omega arith; there = e })
got_either (x ∷ xs) ys zero z e = inl e
got_either {A} (x ∷ xs) ys (suc k) z e =
    ⊎_elim (λ (d : slice_get xs k ≡ Some z). inl d)
    (λ (b : InBack xs ys k z). inr
    (record { place = b.place; number = omega (arith, b.number); there = b.there }))
    (got_either xs ys k z e)

-- there is an element at each number below the length
pub got_some : {A : Type 0} (xs : List A) (k : ℕ) → k < length xs → (x : A) ×
    (slice_get xs k ≡ Some x)
got_some [] k lt = absurd (omega (arith, lt))
got_some (x ∷ xs) zero lt = (x, refl)
got_some (x ∷ xs) (suc k) lt = got_some xs k (omega (arith, lt))

-- ---- another element in place of one

-- ---- counts

-- so many pass before one that passes, and there is one more
pub count_before : {A : Type 0} (p : A → Bool) (xs : List A) (k : ℕ) (x : A) → slice_get xs k ≡
    Some x → p x ≡ true → count_by p (take k xs) < count_by p xs
count_before p [] k x e is = absurd (none_some e)
count_before p (y ∷ ys) zero x e is =
    let here : p y ≡ true = ap p (some_same y x e) ∙ is in
    omega (arith, count-yes p y ys here)
count_before p (y ∷ ys) (suc k) x e is =
    omega (arith, count-cons p y ys, count-cons p y (take k ys), count_before p ys k x e is)

pub bits : (b c : Bool) → (b ≡ true → c ≡ true) → cond b 1 0 ≤ cond c 1 0
bits true c h = subst (λ d. 1 ≤ cond d 1 0) (sym (h refl)) (omega arith)
bits false c h = omega arith

-- What passes in a list is in another one at the same place. So no more pass.
pub count_within : {A : Type 0} (p : A → Bool) (xs ys : List A) →
    ((k : ℕ) (x : A) → slice_get xs k ≡ Some x → p x ≡ true → slice_get ys k ≡ Some x) →
    count_by p xs ≤ count_by p ys
count_within p [] ys there = omega arith
count_within p (x ∷ xs) [] there =
    let no : p x ≡ false = false_from_ne_true (p x) (λ is. none_some (there 0 x refl is)) in
    omega (
      arith,
      count-no p x xs no,
      count_within p xs [] (λ k z d is. absurd (none_some (there (suc k) z d is))),
    )
count_within p (x ∷ xs) (y ∷ ys) there =
    let first = bits (p x) (p y) (λ is. ap p (some_same y x (there 0 x refl is)) ∙ is) in
    omega (
      arith,
      first,
      count-cons p x xs,
      count-cons p y ys,
      count_within p xs ys (λ k z d is. there (suc k) z d is),
    )
