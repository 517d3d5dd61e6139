-- Runs and ranges, one more.
use Rattle.std.proofs.Common.{ℕ, zero, suc, ◌≡◌, ◌+◌, ◌-◌, ◌<◌, ◌≤◌, Bool, true, false, cond, List}
use Rattle.std.proofs.Common.{[], ◌∷◌, ◌++◌, map, length, get_or, take, drop, refl, sym, ap, ◌∙◌}
use Rattle.std.proofs.Common.{arith, append-nil, Some, None, Option, option_to_list}
use Rattle.std.proofs.Common.{append_assoc, ◌⊎◌, inl, inr, min, max}
use Rattle.std.specs.Prelude.{count_by}
use Rattle.std.specs.List.{range_with_len, flat_map, filter_map, prefix_len, cons_option}
use Rattle.std.specs.List.{enumerate_from}
use Rattle.std.proofs.lemmas.Bool.{cases_lt, lt-ltb, le-ltb}
use Rattle.std.proofs.lemmas.List.{take_all, map-append}
use Rattle.std.proofs.lemmas.Grind.{flat_map-append}
use Rattle.std.proofs.lemmas.List.Elements.{filter_map-append}
use Rattle.std.proofs.lemmas.List.FromFn.{length-map-range_with_len, length-range_with_len}
use Rattle.std.proofs.lemmas.List.Sums.{prefix_len-le-length, sum_by_push, count_by-le-length}
use Rattle.pra_list.proofs.Growing.{last_range, range_next}
use Rattle.net_build.specs.Order.{within}
use Rattle.net_build.proofs.Comprehended.{filter_map-empty}

-- ---- the run from l on of what passes, below n, each mapped
module _ (p : ℕ → Bool) (m : ℕ → ℕ) (n : ℕ) where
  abbrev pub count : ℕ → ℕ
  count l = prefix_len p (range_with_len l (n - l))

  abbrev pub run : ℕ → List ℕ
  run l = map m (range_with_len l (count l))

  pub count_more : (l : ℕ) → l < n → p l ≡ true → count l ≡ suc (count (l + 1))
  count_more l lt is =
      let left : n - l ≡ suc (n - (l + 1)) = omega (arith, lt) in
      ap (λ k. prefix_len p (range_with_len l k)) left ∙ ap (λ b. cond b (1 + count (l + 1)) 0) is
      ∙ one_more (count (l + 1))
    where
      one_more : (k : ℕ) → 1 + k ≡ suc k
      one_more k = omega arith

  pub run_more : (l : ℕ) → l < n → p l ≡ true → run l ≡ m l ∷ run (l + 1)
  run_more l lt is = ap (λ k. map m (range_with_len l k)) (count_more l lt is)

  pub run_past : (l : ℕ) → n ≤ l → run l ≡ []
  run_past l le =
      let left : n - l ≡ 0 = omega (arith, le) in
      ap (λ k. map m (range_with_len l (prefix_len p (range_with_len l k)))) left

  pub run_none : (l : ℕ) → l < n → p l ≡ false → run l ≡ []
  run_none l lt is =
      let left : n - l ≡ suc (n - (l + 1)) = omega (arith, lt) in
      let none : count l ≡ 0 = ap (λ k. prefix_len p (range_with_len l k)) left
      ∙ ap (λ b. cond b (1 + count (l + 1)) 0) is in
      ap (λ k. map m (range_with_len l k)) none

  pub run_pushed : (l : ℕ) (row new whole : List ℕ) → l < n → p l ≡ true → row ++ run l ≡ whole →
      new ≡ row ++ m l ∷ [] → new ++ run (l + 1) ≡ whole
  run_pushed l row new whole lt is before step =
      ap (λ r. r ++ run (l + 1)) step ∙ append_assoc row (m l ∷ []) (run (l + 1))
      ∙ ap (λ r. row ++ r) (sym (run_more l lt is)) ∙ before

  pub length-run : (l : ℕ) → length (run l) ≡ count l
  length-run l = length-map-range_with_len m l (count l)

  pub count_past : (l : ℕ) → n ≤ l → count l ≡ 0
  count_past l le =
      let left : n - l ≡ 0 = omega (arith, le) in
      ap (λ k. prefix_len p (range_with_len l k)) left

  pub count_none : (l : ℕ) → l < n → p l ≡ false → count l ≡ 0
  count_none l lt is =
      let left : n - l ≡ suc (n - (l + 1)) = omega (arith, lt) in
      ap (λ k. prefix_len p (range_with_len l k)) left
      ∙ ap (λ b. cond b (1 + count (l + 1)) 0) is

  pub count_short : (l : ℕ) → count l ≤ n - l
  count_short l =
      let h = prefix_len-le-length p (range_with_len l (n - l)) in
      let e = length-range_with_len l (n - l) in
      omega (arith, h, e)

  pub count_some : (l : ℕ) → l < n → p l ≡ true → 0 < count l
  count_some l lt is = let one = count_more l lt is in omega (arith, one)

-- ---- comprehensions over the numbers below n, one more

pub map_more : {A : Type 0} (f : ℕ → A) → (n : ℕ) → map f (range_with_len 0 (n + 1)) ≡
    map f (range_with_len 0 n) ++ f n ∷ []
map_more f n =
    let e : 0 + n ≡ n = omega arith in
    ap (map f) (last_range 0 n) ∙ map-append f (range_with_len 0 n) ((0 + n) ∷ [])
    ∙ ap (λ k. map f (range_with_len 0 n) ++ f k ∷ []) e

-- how many numbers below n pass
pub counted_more : (p : ℕ → Bool) → (n : ℕ) → count_by p (range_with_len 0 (n + 1)) ≡
    count_by p (range_with_len 0 n) + cond (p n) 1 0
counted_more p n = ap (count_by p) (range_next n) ∙ sum_by_push (λ k. cond (p k) 1 0)
    (range_with_len 0 n) n

pub counted_few : (p : ℕ → Bool) → (n : ℕ) → count_by p (range_with_len 0 n) ≤ n
counted_few p n =
    let most = count_by-le-length p (range_with_len 0 n) in
    let long = length-range_with_len 0 n in
    omega (arith, most, long)

pub flat_map_more : {A : Type 0} (f : ℕ → List A) → (n : ℕ) →
    flat_map f (range_with_len 0 (n + 1)) ≡ flat_map f (range_with_len 0 n) ++ f n
flat_map_more f n =
    let e : 0 + n ≡ n = omega arith in
    ap (flat_map f) (last_range 0 n) ∙ flat_map-append f (range_with_len 0 n) ((0 + n) ∷ [])
    ∙ ap (λ l. flat_map f (range_with_len 0 n) ++ l) (append-nil (f (0 + n)) ∙ ap f e)

pub filter_map_more : {A : Type 0} (f : ℕ → Option A) → (n : ℕ) →
    filter_map f (range_with_len 0 (n + 1)) ≡ filter_map f (range_with_len 0 n) ++ option_to_list
    (f n)
filter_map_more f n =
    let e : 0 + n ≡ n = omega arith in
    ap (filter_map f) (last_range 0 n) ∙ filter_map-append f (range_with_len 0 n) ((0 + n) ∷ [])
    ∙ ap (λ l. filter_map f (range_with_len 0 n) ++ l)
    (ap (λ k. filter_map f (k ∷ [])) e ∙ one (f n))
  where
    one : {A : Type 0} (o : Option A) → cons_option o [] ≡ option_to_list o
    one None = refl
    one (Some x) = refl

-- one more turn of a loop that adds what is made of each number
pub added_all : {A : Type 0} (f : ℕ → List A) → (n : ℕ) (start out new : List A) → out ≡ start
    ++ flat_map f (range_with_len 0 n) → new ≡ out ++ f n
    → new ≡ start ++ flat_map f (range_with_len 0 (n + 1))
added_all f n start out new before step =
    step ∙ ap (λ l. l ++ f n) before ∙ append_assoc start (flat_map f (range_with_len 0 n)) (f n)
    ∙ ap (λ l. start ++ l) (sym (flat_map_more f n))

pub added_some : {A : Type 0} (f : ℕ → Option A) → (n : ℕ) (start out new : List A) → out ≡ start
    ++ filter_map f (range_with_len 0 n) → new ≡ out ++ option_to_list (f n)
    → new ≡ start ++ filter_map f (range_with_len 0 (n + 1))
added_some f n start out new before step =
    step ∙ ap (λ l. l ++ option_to_list (f n)) before ∙ append_assoc start
    (filter_map f (range_with_len 0 n)) (option_to_list (f n)) ∙ ap (λ l. start ++ l)
    (sym (filter_map_more f n))

-- where nothing is made of the numbers between, they add nothing
pub added_none : {A : Type 0} (f : ℕ → Option A) → (n k : ℕ) →
    ((x : ℕ) → n ≤ x → x < n + k → f x ≡ None) → filter_map f (range_with_len 0 (n + k)) ≡
    filter_map f (range_with_len 0 n)
added_none f n zero none = ap (λ m. filter_map f (range_with_len 0 m))
    (let e : n + 0 ≡ n = omega arith in e)
added_none {A} f n (suc k) none =
    ap (λ m. filter_map f (range_with_len 0 m)) (let e : n + suc k ≡ n + k + 1 = omega arith in e)
    ∙ filter_map_more f (n + k)
    ∙ ap (λ o. filter_map f (range_with_len 0 (n + k)) ++ option_to_list o)
    (none (n + k) (omega arith) (omega arith))
    ∙ append-nil (filter_map f (range_with_len 0 (n + k)))
    ∙ added_none f n k (λ x le lt. none x le (omega (arith, lt)))

-- where something is made of one number at most, or of two
within_below : {A : Type 0} (f : ℕ → Option A) (n k : ℕ) → k < n → within f n k ≡ f k
within_below f n k lt = ap (λ b. cond b (f k) None) (lt-ltb k n lt)

pub within_past : {A : Type 0} (f : ℕ → Option A) (n k : ℕ) → n ≤ k → within f n k ≡ None
within_past f n k le = ap (λ b. cond b (f k) None) (le-ltb k n le)

-- what is made of the numbers up to one, where nothing is made of those behind it
last_made : {A : Type 0} (f : ℕ → Option A) (n a : ℕ) → a < n →
    ((k : ℕ) → a < k → k < n → f k ≡ None) → filter_map f (range_with_len 0 n) ≡
    filter_map f (range_with_len 0 a) ++ option_to_list (f a)
last_made f n a lt none =
    let long : a + 1 + (n - (a + 1)) ≡ n = omega (arith, lt) in
    sym (ap (λ m. filter_map f (range_with_len 0 m)) long)
    ∙ added_none f (a + 1) (n - (a + 1))
    (λ k le lt2. none k (omega (arith, le)) (omega (arith, lt2, long)))
    ∙ filter_map_more f a

nothing_made : {A : Type 0} (f : ℕ → Option A) (n : ℕ) → ((k : ℕ) → k < n → f k ≡ None) →
    filter_map f (range_with_len 0 n) ≡ []
nothing_made f n none = filter_map-empty f n 0 (λ k le lt. none k (omega (arith, lt)))

pub made_of_none : {A : Type 0} (f : ℕ → Option A) (n : ℕ) (out : List A) →
    ((k : ℕ) → k < n → f k ≡ None) → out ≡ out ++ filter_map f (range_with_len 0 n)
made_of_none f n out none = sym (ap (λ l. out ++ l) (nothing_made f n none) ∙ append-nil out)

made_of_one : {A : Type 0} (f : ℕ → Option A) (n a : ℕ) →
    ((k : ℕ) → k < n → (a ≡ k → ⊥) → f k ≡ None) → filter_map f (range_with_len 0 n) ≡
    option_to_list (within f n a)
made_of_one {A} f n a none = by (cases_lt a n)
  where
    by : (a < n) ⊎ (n ≤ a) → filter_map f (range_with_len 0 n) ≡ option_to_list (within f n a)
    by (inl lt) =
        last_made f n a lt (λ k more lt2. none k lt2 (λ e. omega (arith, e, more)))
        ∙ ap (λ l. l ++ option_to_list (f a)) (nothing_made f a
        (λ k less. none k (omega (arith, less, lt)) (λ e. omega (arith, e, less))))
        ∙ sym (ap (λ o. option_to_list o) (within_below f n a lt))
    by (inr le) = nothing_made f n (λ k lt. none k lt (λ e. omega (arith, e, lt, le)))
        ∙ sym (ap (λ o. option_to_list o) (within_past f n a le))

made_of_two : {A : Type 0} (f : ℕ → Option A) (n a b : ℕ) → a < b →
    ((k : ℕ) → k < n → (a ≡ k → ⊥) → (b ≡ k → ⊥) → f k ≡ None) →
    filter_map f (range_with_len 0 n) ≡
    option_to_list (within f n a) ++ option_to_list (within f n b)
made_of_two {A} f n a b less none = by (cases_lt b n)
  where
    by : (b < n) ⊎ (n ≤ b) → filter_map f (range_with_len 0 n) ≡ option_to_list (within f n a) ++
        option_to_list (within f n b)
    by (inl lt) =
        last_made f n b lt (λ k more lt2. none k lt2 (λ e. omega (arith, e, more, less))
        (λ e. omega (arith, e, more)))
        ∙ ap (λ l. l ++ option_to_list (f b)) (made_of_one f b a
        (λ k lt2 other. none k (omega (arith, lt, lt2)) other (λ e. omega (arith, e, lt2))))
        ∙ ap (λ o. option_to_list o ++ option_to_list (f b)) (within_below f b a less ∙ sym
        (within_below f n a (omega (arith, less, lt))))
        ∙ sym (ap (λ o. option_to_list (within f n a) ++ option_to_list o) (within_below f n b lt))
    by (inr le) =
        made_of_one f n a
        (λ k lt other. none k lt other (λ e. omega (arith, e, lt, le)))
        ∙ sym (append-nil (option_to_list (within f n a)))
        ∙ sym (ap (λ o. option_to_list (within f n a) ++ option_to_list o) (within_past f n b le))

-- the same of two numbers in any order, which may be one
module _ {A : Type 0} (f : ℕ → Option A) (n one other : ℕ)
    (none : (k : ℕ) → k < n → (one ≡ k → ⊥) → (other ≡ k → ⊥) → f k ≡ None) (start : List A) where
  pub made_of_same : (a : ℕ) (new : List A) → a ≡ one → one ≡ other →
      new ≡ start ++ option_to_list (within f n a) →
      new ≡ start ++ filter_map f (range_with_len 0 n)
  made_of_same a new e same step = step ∙ ap (λ l. start ++ l) (sym (made_of_one f n a
      (λ k lt apart. none k lt (λ p. apart (e ∙ p)) (λ p. apart (e ∙ same ∙ p)))))

  pub made_of_both : (a b : ℕ) (out new : List A) → a ≡ min one other → b ≡ max one other →
      (one ≡ other → ⊥) → out ≡ start ++ option_to_list (within f n a) →
      new ≡ out ++ option_to_list (within f n b) →
      new ≡ start ++ filter_map f (range_with_len 0 n)
  made_of_both a b out new low high apart first second =
      second ∙ ap (λ l. l ++ option_to_list (within f n b)) first
      ∙ append_assoc start (option_to_list (within f n a)) (option_to_list (within f n b))
      ∙ ap (λ l. start ++ l) (sym (made_of_two f n a b (omega (arith, low, high, apart))
      (λ k lt p q. none k lt (λ e. is_one k e p q) (λ e. is_other k e p q))))
    where
      is_one : (k : ℕ) → one ≡ k → (a ≡ k → ⊥) → (b ≡ k → ⊥) → ⊥
      is_one k e p q = elim (cases_lt one other) as (λ _. ⊥) [
        | inl lt ↦ p (omega (arith, low, lt, e))
        | inr ge ↦ q (omega (arith, high, ge, e))
      ]

      is_other : (k : ℕ) → other ≡ k → (a ≡ k → ⊥) → (b ≡ k → ⊥) → ⊥
      is_other k e p q = elim (cases_lt one other) as (λ _. ⊥) [
        | inl lt ↦ q (omega (arith, high, lt, e))
        | inr ge ↦ p (omega (arith, low, ge, e))
      ]

-- ---- comprehensions over what is left of a list

pub filtered : {X Y : Type 0} (g : ℕ × X → Option Y) → (n : ℕ) (xs : List X) (d : X)
    (out new whole : List Y) → 1 ≤ length xs
    → new ≡ out ++ option_to_list (g (n, get_or xs 0 d)) →
    out ++ filter_map g (enumerate_from n xs) ≡ whole
    → new ++ filter_map g (enumerate_from (n + 1) (take (length xs - 1) (drop 1 xs))) ≡ whole
filtered g n [] d out new whole some step before = absurd (omega (arith, some))
filtered {X} {Y} g n (x ∷ xs) d out new whole some step before =
    ap (λ r. new ++ filter_map g (enumerate_from (n + 1) r))
    (take_all (suc (length xs) - 1) xs (omega arith))
    ∙ ap (λ l. l ++ filter_map g (enumerate_from (n + 1) xs)) step
    ∙ append_assoc out (option_to_list (g (n, x))) (filter_map g (enumerate_from (n + 1) xs))
    ∙ ap (λ l. out ++ l) (one (g (n, x)) (filter_map g (enumerate_from (n + 1) xs)))
    ∙ before
  where
    one : (o : Option Y) (ys : List Y) → option_to_list o ++ ys ≡ cons_option o ys
    one None ys = refl
    one (Some y) ys = refl
