-- Elements of lists by number: of lists that are joined, cut off at the front, or changed.
use Rattle.std.proofs.Common.{◌≡◌, ◌≢◌, ℕ, zero, suc, ◌+◌, ◌<◌, List, [], ◌∷◌, ◌++◌, length, drop}
use Rattle.std.proofs.Common.{Some, None, refl, ap, subst, arith}
use Rattle.std.specs.Prelude.{slice_get, slice_set}
use Rattle.pra_list.proofs.Options.{some_same, none_some}

-- ---- the first element and the rest

pub head_same : {A : Type 0} (x y : A) (xs ys : List A) → x ∷ xs ≡ y ∷ ys → x ≡ y
head_same x y xs ys e = cc

pub tail_same : {A : Type 0} (x y : A) (xs ys : List A) → x ∷ xs ≡ y ∷ ys → xs ≡ ys
tail_same x y xs ys e = cc

pub nil_cons : {A : Type 0} (x : A) (xs : List A) → [] ≡ x ∷ xs → ⊥
nil_cons x xs e = cc

-- ---- two lists one after the other

pub got_front : {A : Type 0} (xs ys : List A) (k : ℕ) (z : A) → slice_get xs k ≡ Some z →
    slice_get (xs ++ ys) k ≡ Some z
got_front [] ys k z e = absurd (none_some e)
got_front (x ∷ xs) ys zero z e = e
got_front (x ∷ xs) ys (suc k) z e = got_front xs ys k z e

pub got_back : {A : Type 0} (xs ys : List A) (k j : ℕ) → k ≡ length xs + j →
    slice_get (xs ++ ys) k ≡ slice_get ys j
got_back [] ys k j e = ap (slice_get ys) (omega (arith, e))
got_back (x ∷ xs) ys zero j e = absurd (omega (arith, e))
got_back (x ∷ xs) ys (suc k) j e = got_back xs ys k j (omega (arith, e))

pub got_last : {A : Type 0} (xs : List A) (y : A) (ys : List A) →
    slice_get (xs ++ y ∷ ys) (length xs) ≡ Some y
got_last [] y ys = refl
got_last (x ∷ xs) y ys = got_last xs y ys

-- what holds of each holds with one more
pub each_more : {A : Type 0} (P : A → Type 0) (xs : List A) (x : A) →
    ((k : ℕ) (y : A) → slice_get xs k ≡ Some y → P y) → P x → (k : ℕ) (y : A) →
    slice_get (xs ++ x ∷ []) k ≡ Some y → P y
each_more P [] x all it zero y there = subst P (some_same x y there) it
each_more P [] x all it (suc k) y there = cc
each_more P (z ∷ xs) x all it zero y there = all zero y there
each_more P (z ∷ xs) x all it (suc k) y there = each_more P xs x (λ k. all (suc k)) it k y there

-- ---- what is left behind the first ones begins with the element there

pub nothing_left : {A : Type 0} (xs : List A) (k : ℕ) → drop k xs ≡ [] → slice_get xs k ≡ None
nothing_left [] k e = refl
nothing_left (x ∷ xs) zero e = cc
nothing_left (x ∷ xs) (suc k) e = nothing_left xs k e

pub left_begins : {A : Type 0} (xs ys : List A) (k : ℕ) (y : A) → drop k xs ≡ y ∷ ys →
    (slice_get xs k ≡ Some y) × (drop (suc k) xs ≡ ys)
left_begins [] ys zero y e = (cc, cc)
left_begins [] ys (suc k) y e = (cc, cc)
left_begins (x ∷ xs) ys zero y e = (cc, cc)
left_begins (x ∷ xs) ys (suc k) y e = left_begins xs ys k y e

pub none_left : {A : Type 0} (xs : List A) (k : ℕ) → slice_get xs k ≡ None → drop k xs ≡ []
none_left [] zero e = refl
none_left [] (suc k) e = refl
none_left (x ∷ xs) zero e = cc
none_left (x ∷ xs) (suc k) e = none_left xs k e

pub some_left : {A : Type 0} (xs : List A) (k : ℕ) (x : A) → slice_get xs k ≡ Some x → drop k xs ≡
    x ∷ drop (suc k) xs
some_left [] k x e = cc
some_left (y ∷ ys) zero x e = cc
some_left (y ∷ ys) (suc k) x e = some_left ys k x e

-- ---- another element in place of one

pub got_set : {A : Type 0} (xs : List A) (k : ℕ) (z : A) → k < length xs →
    slice_get (slice_set xs k z) k ≡ Some z
got_set [] k z lt = absurd (omega (arith, lt))
got_set (x ∷ xs) zero z lt = refl
got_set (x ∷ xs) (suc k) z lt = got_set xs k z (omega (arith, lt))

pub got_unset : {A : Type 0} (xs : List A) (k j : ℕ) (z : A) → j ≢ k →
    slice_get (slice_set xs k z) j ≡ slice_get xs j
got_unset [] k j z apart = refl
got_unset (x ∷ xs) zero zero z apart = absurd (apart refl)
got_unset (x ∷ xs) zero (suc j) z apart = refl
got_unset (x ∷ xs) (suc k) zero z apart = refl
got_unset (x ∷ xs) (suc k) (suc j) z apart = got_unset xs k j z (λ e. apart (ap suc e))

pub length_set : {A : Type 0} (xs : List A) (i : ℕ) (y : A) → length (slice_set xs i y) ≡ length xs
length_set [] i y = refl
length_set (x ∷ xs) zero y = refl
length_set (x ∷ xs) (suc i) y = omega (arith, length_set xs i y)
