-- What is in a list.
use Rattle.std.proofs.Common.{◌≡◌, ℕ, zero, suc, ◌+◌, ◌<◌, ◌≤◌, ◌⊎◌, inl, inr, ⊎_elim, Bool, true}
use Rattle.std.proofs.Common.{false, cond, List, [], ◌∷◌, ◌++◌, map, All, slice_get, Option, Some}
use Rattle.std.proofs.Common.{None, refl, sym, ap, subst, ◌∙◌, arith, count_by, sum_by, filter}
use Rattle.std.specs.List.{find, flat_map, filter_map, range_with_len, cons_option}
use Rattle.std.proofs.lemmas.Bool.{cases_eq}
use Rattle.std.proofs.lemmas.List.Elements.{All-head, All-tail}
use Rattle.std.proofs.lemmas.List.Sums.{sum_by-cons}
use Rattle.pra_list.specs.Among.{Among}
use Rattle.pra_list.proofs.Counts.{bit, count-cons}
use Rattle.pra_list.proofs.Options.{some_same}
use Rattle.pra_list.proofs.Truths.{true_false}

pub in_all : {X : Type 0} (P : X → Type 0) (xs : List X) → All P xs → (x : X) → Among x xs → P x
in_all P [] all x i = absurd i
in_all P (y ∷ ys) all x i = ⊎_elim (λ (e : x ≡ y). subst P (sym e) (All-head P y ys all))
    (λ (more : Among x ys). in_all P ys (All-tail P y ys all) x more) i

pub in_at : {X : Type 0} (xs : List X) (k : ℕ) (x : X) → slice_get xs k ≡ Some x → Among x xs
in_at [] k x e = cc
in_at (y ∷ ys) zero x e = inl (sym (some_same y x e))
in_at (y ∷ ys) (suc k) x e = inr (in_at ys k x e)

pub at_in : {X : Type 0} (xs : List X) (x : X) → Among x xs → (k : ℕ) × (slice_get xs k ≡ Some x)
at_in [] x i = absurd i
at_in (y ∷ ys) x i = ⊎_elim (λ (e : x ≡ y). (0, ap Some (sym e)))
    (λ (more : Among x ys). let a = at_in ys x more in (suc a.0, a.1)) i

pub in_left : {X : Type 0} (xs ys : List X) (x : X) → Among x xs → Among x (xs ++ ys)
in_left [] ys x i = absurd i
in_left (z ∷ zs) ys x i = ⊎_elim (λ (e : x ≡ z). inl e)
    (λ (more : Among x zs). inr (in_left zs ys x more)) i

pub in_right : {X : Type 0} (xs ys : List X) (x : X) → Among x ys → Among x (xs ++ ys)
in_right [] ys x i = i
in_right (z ∷ zs) ys x i = inr (in_right zs ys x i)

pub in_either : {X : Type 0} (xs ys : List X) (x : X) → Among x (xs ++ ys) → Among x xs ⊎ Among x ys
in_either [] ys x i = inr i
in_either (z ∷ zs) ys x i =
    ⊎_elim (λ (e : x ≡ z). inl (inl e))
    (λ (more : Among x (zs ++ ys)). ⊎_elim (λ (a : Among x zs). inl (inr a))
    (λ (b : Among x ys). inr b) (in_either zs ys x more)) i

pub in_map : {X Y : Type 0} (f : X → Y) (xs : List X) (x : X) → Among x xs → Among (f x) (map f xs)
in_map f [] x i = absurd i
in_map f (z ∷ zs) x i = ⊎_elim (λ (e : x ≡ z). inl (ap f e))
    (λ (more : Among x zs). inr (in_map f zs x more)) i

pub of_map : {X Y : Type 0} (f : X → Y) (xs : List X) (y : Y) → Among y (map f xs) → (x : X) ×
    Among x xs × (y ≡ f x)
of_map f [] y i = absurd i
of_map f (z ∷ zs) y i = ⊎_elim (λ (e : y ≡ f z). (z, inl refl, e))
    (λ (more : Among y (map f zs)). let a = of_map f zs y more in (a.0, inr a.1, a.2)) i

pub in_filter : {X : Type 0} (p : X → Bool) (xs : List X) (x : X) → Among x xs → p x ≡ true →
    Among x (filter p xs)
in_filter p [] x i t = absurd i
in_filter {X = X} p (z ∷ zs) x i t = kept (p z) refl (λ more. in_filter p zs x more t)
  where
    kept : (b : Bool) → p z ≡ b → (Among x zs → Among x (filter p zs)) →
        Among x (cond b (z ∷ filter p zs) (filter p zs))
    kept true e ih = ⊎_elim (λ (same : x ≡ z). inl same) (λ (more : Among x zs). inr (ih more)) i
    kept false e ih = ⊎_elim (λ (same : x ≡ z). absurd (true_false (p z) (sym (ap p same) ∙ t) e))
        (λ (more : Among x zs). ih more) i

pub of_filter : {X : Type 0} (p : X → Bool) (xs : List X) (x : X) → Among x (filter p xs) →
    Among x xs × (p x ≡ true)
of_filter p [] x i = absurd i
of_filter p (z ∷ zs) x i = kept (p z) refl (λ more. of_filter p zs x more) i
  where
    kept : (b : Bool) → p z ≡ b → (Among x (filter p zs) → Among x zs × (p x ≡ true)) →
        Among x (cond b (z ∷ filter p zs) (filter p zs)) → Among x (z ∷ zs) × (p x ≡ true)
    kept true e ih i = ⊎_elim (λ (same : x ≡ z). (inl same, ap p same ∙ e))
        (λ (more : Among x (filter p zs)). let a = ih more in (inr a.0, a.1)) i
    kept false e ih i = let a = ih i in (inr a.0, a.1)

pub found_in : {X : Type 0} (p : X → Bool) (xs : List X) (x : X) → find p xs ≡ Some x → Among x xs ×
    (p x ≡ true)
found_in p [] x e = cc
found_in p (z ∷ zs) x e = kept (p z) refl (λ more. found_in p zs x more) e
  where
    kept : (b : Bool) → p z ≡ b → (find p zs ≡ Some x → Among x zs × (p x ≡ true)) →
        cond b (Some z) (find p zs) ≡ Some x → Among x (z ∷ zs) × (p x ≡ true)
    kept true t ih e = let same : z ≡ x = some_same z x e in (inl (sym same), sym (ap p same) ∙ t)
    kept false t ih e = let a = ih e in (inr a.0, a.1)

-- what passes is found, or something before it
pub finds : {X : Type 0} (p : X → Bool) (xs : List X) (x : X) → Among x xs → p x ≡ true → (y : X) ×
    (find p xs ≡ Some y)
finds p [] x i t = absurd i
finds {X = X} p (z ∷ zs) x i t = kept (p z) refl (λ more. finds p zs x more t)
  where
    kept : (b : Bool) → p z ≡ b → (Among x zs → (y : X) × (find p zs ≡ Some y)) → (y : X) ×
        (cond b (Some z) (find p zs) ≡ Some y)
    kept true e ih = (z, refl)
    kept false e ih = ⊎_elim (λ (same : x ≡ z). absurd (true_false (p z) (sym (ap p same) ∙ t) e))
        (λ (more : Among x zs). ih more) i

pub in_flat : {X Y : Type 0} (f : X → List Y) (xs : List X) (x : X) (y : Y) → Among x xs →
    Among y (f x) → Among y (flat_map f xs)
in_flat f [] x y i j = absurd i
in_flat f (z ∷ zs) x y i j =
    ⊎_elim (λ (e : x ≡ z). in_left (f z) (flat_map f zs) y (subst (λ w. Among y (f w)) e j))
    (λ (more : Among x zs). in_right (f z) (flat_map f zs) y (in_flat f zs x y more j)) i

skipped : {Y : Type 0} (o : Option Y) (ys : List Y) (y : Y) → Among y ys →
    Among y (cons_option o ys)
skipped None ys y i = i
skipped (Some w) ys y i = inr i

pub in_filter_map : {X Y : Type 0} (f : X → Option Y) (xs : List X) (x : X) (y : Y) → Among x xs →
    f x ≡ Some y → Among y (filter_map f xs)
in_filter_map f [] x y i e = absurd i
in_filter_map f (z ∷ zs) x y i e =
    ⊎_elim
    (λ (same : x ≡ z). subst (λ o. Among y (cons_option o (filter_map f zs)))
    (sym (sym (ap f same) ∙ e)) (inl refl))
    (λ (more : Among x zs). skipped (f z) (filter_map f zs) y (in_filter_map f zs x y more e))
    i

pub in_range : (a n k : ℕ) → a ≤ k → k < a + n → Among k (range_with_len a n)
in_range a zero k le lt = absurd (omega arith)
in_range a (suc n) k le lt =
    ⊎_elim
    (λ (e : k ≡ a). inl e)
    (λ (ne : k ≡ a → ⊥). inr (in_range (a + 1) n k (omega (arith, le, ne)) (omega (arith, lt))))
    (cases_eq k a)

-- ---- counts

pub some_counted : {X : Type 0} (p : X → Bool) (xs : List X) (j : ℕ) (y : X) → slice_get xs j ≡
    Some y → p y ≡ true → 0 < count_by p xs
some_counted p [] j y e t = cc
some_counted p (x ∷ xs) zero y e t =
    let one = count-cons p x xs in
    let bits = ap bit (ap p (some_same x y e) ∙ t) in
    omega (arith, one, bits)
some_counted p (x ∷ xs) (suc j) y e t =
    let one = count-cons p x xs in
    let more = some_counted p xs j y e t in
    omega (arith, one, more)

-- where one passes at most, two that pass are the same one
pub at_most_one : {X : Type 0} (p : X → Bool) (xs : List X) → count_by p xs ≤ 1 →
    (i j : ℕ) (x y : X) → slice_get xs i ≡ Some x → p x ≡ true → slice_get xs j ≡ Some y →
    p y ≡ true → i ≡ j
at_most_one p [] few i j x y e t f u = cc
at_most_one p (z ∷ zs) few zero zero x y e t f u = refl
at_most_one p (z ∷ zs) few zero (suc j) x y e t f u =
    let one = count-cons p z zs in
    let bits = ap bit (ap p (some_same z x e) ∙ t) in
    let more = some_counted p zs j y f u in
    absurd (omega (arith, one, bits, more, few))
at_most_one p (z ∷ zs) few (suc i) zero x y e t f u =
    let one = count-cons p z zs in
    let bits = ap bit (ap p (some_same z y f) ∙ u) in
    let more = some_counted p zs i x e t in
    absurd (omega (arith, one, bits, more, few))
at_most_one p (z ∷ zs) few (suc i) (suc j) x y e t f u =
    let one = count-cons p z zs in
    ap suc (at_most_one p zs (omega (arith, one, few)) i j x y e t f u)

-- the same, for elements
pub one_passes : {X : Type 0} (p : X → Bool) (xs : List X) → count_by p xs ≤ 1 → (x y : X) →
    Among x xs → p x ≡ true → Among y xs → p y ≡ true → x ≡ y
one_passes p xs few x y i t j u =
    let a = at_in xs x i in
    let b = at_in xs y j in
    let same = at_most_one p xs few a.0 b.0 x y a.1 t b.1 u in
    some_same x y (sym a.1 ∙ ap (slice_get xs) same ∙ b.1)

-- ---- sums over a range

pub sum_zero : (g : ℕ → ℕ) (a n : ℕ) → ((i : ℕ) → a ≤ i → g i ≡ 0) → sum_by g (range_with_len a n) ≡
    0
sum_zero g a zero f = refl
sum_zero g a (suc n) f =
    let one = sum_by-cons g a (range_with_len (a + 1) n) in
    let first = f a (omega arith) in
    let more = sum_zero g (a + 1) n (λ i le. f i (omega (arith, le))) in
    omega (arith, one, first, more)

pub sum_one : (g : ℕ → ℕ) (k a n : ℕ) → ((i : ℕ) → (i ≡ k → ⊥) → g i ≡ 0) → g k ≤ 1 →
    sum_by g (range_with_len a n) ≤ 1
sum_one g k a zero f le = omega arith
sum_one g k a (suc n) f le =
    let one = sum_by-cons g a (range_with_len (a + 1) n) in
    ⊎_elim
    (λ (e : a ≡ k).
    let first : g a ≡ g k = ap g e in
    let more = sum_zero g (a + 1) n (λ i lt. f i (λ same. omega (arith, lt, same, e))) in
    omega (arith, one, first, more, le))
    (λ (ne : a ≡ k → ⊥).
    let first = f a ne in
    let more = sum_one g k (a + 1) n f le in
    omega (arith, one, first, more))
    (cases_eq a k)
