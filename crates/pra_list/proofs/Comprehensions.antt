-- Facts about all elements of lists that are made from lists.
use Rattle.std.proofs.Common.{ℕ, zero, suc, ◌≡◌, ◌+◌, ◌*◌, ◌<◌, ◌≤◌, Bool, true, false, cond, List}
use Rattle.std.proofs.Common.{[], ◌∷◌, length, length-append, All, map, sum_by, refl, ap, arith}
use Rattle.std.proofs.Common.{Some, None, Option, IfSome}
use Rattle.std.specs.List.{range_with_len, flat_map, filter_map, cons_option, enumerate_from}
use Rattle.std.proofs.lemmas.List.Sums.{sum_by-cons}
use Rattle.std.proofs.lemmas.List.Elements.{All-nil, All-cons, All-append, All-head, All-tail}

All-cons_option : {Y : Type 0} (P : Y → Type 0) → (o : Option Y) (ys : List Y) → IfSome o P →
    All P ys → All P (cons_option o ys)
All-cons_option P None ys h more = more
All-cons_option P (Some y) ys h more = All-cons P y ys h more

pub All-filter_map : {X Y : Type 0} (P : Y → Type 0) → (f : X → Option Y) (xs : List X) →
    All (λ x. IfSome (f x) P) xs → All P (filter_map f xs)
All-filter_map P f [] h = All-nil P
All-filter_map P f (x ∷ xs) h =
    All-cons_option P (f x) (filter_map f xs) (All-head (λ x. IfSome (f x) P) x xs h)
    (All-filter_map P f xs (All-tail (λ x. IfSome (f x) P) x xs h))

pub All-flat_map : {X Y : Type 0} (P : Y → Type 0) → (f : X → List Y) (xs : List X) →
    All (λ x. All P (f x)) xs → All P (flat_map f xs)
All-flat_map P f [] h = All-nil P
All-flat_map P f (x ∷ xs) h =
    All-append P (f x) (flat_map f xs) (All-head (λ x. All P (f x)) x xs h)
    (All-flat_map P f xs (All-tail (λ x. All P (f x)) x xs h))

pub All-range : (P : ℕ → Type 0) → (a n : ℕ) → ((i : ℕ) → a ≤ i → i < a + n → P i) →
    All P (range_with_len a n)
All-range P a zero h = All-nil P
All-range P a (suc n) h =
    All-cons P a (range_with_len (a + 1) n) (h a (omega arith) (omega arith))
    (All-range P (a + 1) n (λ i le lt. h i (omega (arith, le)) (omega (arith, lt))))

pub All-enumerate : {X : Type 0} (P : X → Type 0) → (n : ℕ) (xs : List X) → All P xs →
    All (λ (x : ℕ × X). P x.1) (enumerate_from n xs)
All-enumerate P n [] h = All-nil _
All-enumerate {X} P n (x ∷ xs) h =
    All-cons (λ (x : ℕ × X). P x.1) (n, x) (enumerate_from (n + 1) xs) (All-head P x xs h)
    (All-enumerate P (n + 1) xs (All-tail P x xs h))

-- a choice that is Some only where the test holds
pub IfSome-test : {Y : Type 0} (P : Y → Type 0) → (b : Bool) (y : Y) → (b ≡ true → P y) →
    IfSome (cond b (Some y) None) P
IfSome-test P true y h = h refl
IfSome-test P false y h = tt

-- ---- lengths and sums

length-cons_option : {Y : Type 0} (o : Option Y) (ys : List Y) → length (cons_option o ys) ≤
    suc (length ys)
length-cons_option None ys = omega arith
length-cons_option (Some y) ys = omega arith

pub length-filter_map : {X Y : Type 0} (f : X → Option Y) (xs : List X) → length (filter_map f xs) ≤
    length xs
length-filter_map f [] = omega arith
length-filter_map f (x ∷ xs) =
    let one = length-cons_option (f x) (filter_map f xs) in
    let more = length-filter_map f xs in
    omega (arith, one, more)

pub length-flat_map : {X Y : Type 0} (f : X → List Y) (g : X → ℕ) (v : ℕ) (xs : List X) →
    ((x : X) → length (f x) ≤ v * g x) → length (flat_map f xs) ≤ v * sum_by g xs
length-flat_map f g v [] h = omega arith
length-flat_map f g v (x ∷ xs) h =
    let both = length-append (f x) (flat_map f xs) in
    let more = length-flat_map f g v xs h in
    let one = h x in
    let sum = sum_by-cons g x xs in
    let split : v * (g x + sum_by g xs) ≡ v * g x + v * sum_by g xs = grind arith in
    let all = ap (λ n. v * n) sum in
    omega (arith, both, more, one, split, all)

pub sum_by-map : {X Y : Type 0} (h : Y → ℕ) (f : X → Y) (xs : List X) → sum_by h (map f xs) ≡
    sum_by (λ x. h (f x)) xs
sum_by-map h f [] = refl
sum_by-map h f (x ∷ xs) =
    let a = sum_by-cons h (f x) (map f xs) in
    let b = sum_by-cons (λ x. h (f x)) x xs in
    let more = sum_by-map h f xs in
    omega (arith, a, b, more)

pub ones : {X : Type 0} (xs : List X) → sum_by (λ _. 1) xs ≡ length xs
ones [] = refl
ones {X} (x ∷ xs) = let a = sum_by-cons (λ (_ : X). 1) x xs in let more = ones xs in
    omega (arith, a, more)
