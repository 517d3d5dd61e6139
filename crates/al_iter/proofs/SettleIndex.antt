-- Where the index has the strands of a variable.
use Rattle.std.proofs.Common.{ℕ, zero, suc, ◌≡◌, ◌≢◌, ◌+◌, ◌-◌, ◌<◌, ◌≤◌, Bool, true, false, cond}
use Rattle.std.proofs.Common.{List, [], ◌∷◌, ◌++◌, length, get_or, take, drop, count_by, All}
use Rattle.std.proofs.Common.{Some, None, refl, sym, ap, ◌∙◌, subst, inl, inr, arith}
use Rattle.std.specs.Prelude.{nat_lt, nat_eq, ◌||◌, slice_range}
use Rattle.std.specs.List.{range_with_len, enumerate_from, flat_map, filter_map, AllPairs}
use Rattle.std.proofs.lemmas.Bool.{cases_Bool, eq-eqb, ne_eqb}
use Rattle.std.proofs.lemmas.Bool.Decides.{nat_tests}
use Rattle.std.proofs.lemmas.Grind.{flat_map-append}
use Rattle.std.proofs.lemmas.List.{length-append}
use Rattle.std.proofs.lemmas.List.FromFn.{length-map-range_with_len, get_or-map-range_with_len}
use Rattle.std.proofs.lemmas.List.Elements.{All-nil, All-cons, All-weaker}
use Rattle.std.proofs.Math.Seq.{take-append_seam, drop-append_seam}
use Rattle.pra_list.proofs.Counts.{bit, count-cons, count-none}
use Rattle.net_form.specs.declared.net.Net.{Net}
use Rattle.net_form.specs.declared.net.NetIndex.{NetIndex}
use Rattle.net_form.specs.declared.net.Strand.{Strand}
use Rattle.net_form.specs.Admitted.{no_strand}
use Rattle.net_form.specs.Formed.{IsFormed}
use Rattle.net_form.specs.Index.{var_count}
use Rattle.al_iter.specs.SettleState.{among, AreStrandsOf}

-- ---- the strands of one variable, counted from number n on

abbrev var_of : Strand → ℕ
var_of t = t.var.0

abbrev pub owned : ℕ → ℕ → List Strand → List ℕ
owned v n ts = filter_map (λ (x : ℕ × Strand). cond (nat_eq x.1.var.0 v) (Some x.0) None)
    (enumerate_from n ts)

owned_one : (v n : ℕ) (t : Strand) (ts : List Strand) (b : Bool) → nat_eq t.var.0 v ≡ b
    → owned v n (t ∷ ts) ≡ cond b (n ∷ owned v (n + 1) ts) (owned v (n + 1) ts)
owned_one v n t ts true is = rw is refl
owned_one v n t ts false is = rw is refl

owned_after : (v n : ℕ) (ts : List Strand) → All (λ s. n ≤ s) (owned v n ts)
owned_after v n [] = All-nil _
owned_after v n (t ∷ ts) =
    let later = All-weaker (λ s. n + 1 ≤ s) (λ s. n ≤ s) (λ s le. omega (arith, le))
    (owned v (n + 1) ts) (owned_after v (n + 1) ts) in
    elim (cases_Bool (nat_eq t.var.0 v)) as (λ _. All (λ s. n ≤ s) (owned v n (t ∷ ts))) [
      | inl is ↦ subst (All (λ s. n ≤ s)) (sym (owned_one v n t ts true is))
          (All-cons (λ s. n ≤ s) n (owned v (n + 1) ts) (omega arith) later)
      | inr is ↦ subst (All (λ s. n ≤ s)) (sym (owned_one v n t ts false is)) later
    ]

owned_before : (v n : ℕ) (ts : List Strand) → All (λ s. s < n + length ts) (owned v n ts)
owned_before v n [] = All-nil _
owned_before v n (t ∷ ts) =
    let later = All-weaker (λ s. s < n + 1 + length ts) (λ s. s < n + suc (length ts))
    (λ s lt. omega (arith, lt)) (owned v (n + 1) ts) (owned_before v (n + 1) ts) in
    elim (cases_Bool (nat_eq t.var.0 v))
    as (λ _. All (λ s. s < n + suc (length ts)) (owned v n (t ∷ ts))) [
      | inl is ↦ subst (All (λ s. s < n + suc (length ts))) (sym (owned_one v n t ts true is))
          (All-cons (λ s. s < n + suc (length ts)) n (owned v (n + 1) ts) (omega arith) later)
      | inr is ↦ subst (All (λ s. s < n + suc (length ts))) (sym (owned_one v n t ts false is))
          later
    ]

pairs-cons : (x : ℕ) (xs : List ℕ) → All (λ y. x < y) xs → AllPairs (λ s r. s < r) xs
    → AllPairs (λ s r. s < r) (x ∷ xs)
pairs-cons x xs first more zero zero d lt in_ = absurd (omega (arith, lt))
pairs-cons x xs first more zero (suc j) d lt in_ = first j d (omega (arith, in_))
pairs-cons x xs first more (suc i) zero d lt in_ = absurd (omega (arith, lt))
pairs-cons x xs first more (suc i) (suc j) d lt in_ = more i j d (omega (arith, lt))
    (omega (arith, in_))

owned_rising : (v n : ℕ) (ts : List Strand) → AllPairs (λ s r. s < r) (owned v n ts)
owned_rising v n [] = λ i j d lt in_. absurd (omega (arith, in_))
owned_rising v n (t ∷ ts) =
    let more = owned_rising v (n + 1) ts in
    elim (cases_Bool (nat_eq t.var.0 v))
    as (λ _. AllPairs (λ s r. s < r) (owned v n (t ∷ ts))) [
      | inl is ↦ subst (AllPairs (λ s r. s < r)) (sym (owned_one v n t ts true is))
          (pairs-cons n (owned v (n + 1) ts)
          (All-weaker (λ s. n + 1 ≤ s) (λ s. n < s) (λ s le. omega (arith, le))
          (owned v (n + 1) ts) (owned_after v (n + 1) ts)) more)
      | inr is ↦ subst (AllPairs (λ s r. s < r)) (sym (owned_one v n t ts false is)) more
    ]

pub none_among : (xs : List ℕ) (s : ℕ) → All (λ x. s ≢ x) xs → among xs s ≡ false
none_among [] s h = refl
none_among (x ∷ xs) s h = ap (λ b. b || among xs s) (ne_eqb s x (h 0 x (omega arith)))
    ∙ none_among xs s (λ k d lt. h (suc k) d (omega (arith, lt)))

owned_each : (v n i : ℕ) (ts : List Strand) → i < length ts
    → nat_eq (get_or ts i no_strand).var.0 v ≡ among (owned v n ts) (n + i)
owned_each v n i [] lt = absurd (omega (arith, lt))
owned_each v n zero (t ∷ ts) lt = by (nat_eq t.var.0 v) refl
  where
    by : (b : Bool) → nat_eq t.var.0 v ≡ b
        → nat_eq t.var.0 v ≡ among (owned v n (t ∷ ts)) (n + 0)
    by true is = is
        ∙ sym (ap (λ xs. among xs (n + 0)) (owned_one v n t ts true is)
        ∙ ap (λ b. b || among (owned v (n + 1) ts) (n + 0)) (eq-eqb (n + 0) n (omega arith)))
    by false is = is
        ∙ sym (ap (λ xs. among xs (n + 0)) (owned_one v n t ts false is)
        ∙ none_among (owned v (n + 1) ts) (n + 0)
        (λ k d in_ same. let le = owned_after v (n + 1) ts k d in_ in omega (arith, le, same)))
owned_each v n (suc i) (t ∷ ts) lt =
    let next : n + 1 + i ≡ n + suc i = omega arith in
    let more = subst (λ s. nat_eq (get_or ts i no_strand).var.0 v ≡ among (owned v (n + 1) ts) s)
    next (owned_each v (n + 1) i ts (omega (arith, lt))) in
    elim (cases_Bool (nat_eq t.var.0 v))
    as (λ _. nat_eq (get_or ts i no_strand).var.0 v ≡ among (owned v n (t ∷ ts)) (n + suc i)) [
      | inl is ↦ more
          ∙ sym (ap (λ xs. among xs (n + suc i)) (owned_one v n t ts true is)
          ∙ ap (λ b. b || among (owned v (n + 1) ts) (n + suc i))
          (ne_eqb (n + suc i) n (λ same. omega (arith, same))))
      | inr is ↦ more ∙ sym (ap (λ xs. among xs (n + suc i)) (owned_one v n t ts false is))
    ]

pub are_strands_of : (net : Net) (v : ℕ) → AreStrandsOf net v (owned v 0 net.strands)
are_strands_of net v = record {
  are = record {
    there = All-weaker (λ s. s < 0 + length net.strands) (λ s. s < length net.strands)
        (λ s lt. omega (arith, lt)) (owned v 0 net.strands) (owned_before v 0 net.strands);
    rising = owned_rising v 0 net.strands;
  };
  each = λ s lt. owned_each v 0 s net.strands lt
      ∙ ap (among (owned v 0 net.strands)) (let e : 0 + s ≡ s = omega arith in e);
}

-- ---- where they lie

owned_long : (v n : ℕ) (ts : List Strand)
    → length (owned v n ts) ≡ count_by (λ t. nat_eq (var_of t) v) ts
owned_long v n [] = refl
owned_long v n (t ∷ ts) =
    let all = count-cons (λ t. nat_eq (var_of t) v) t ts in
    let more = owned_long v (n + 1) ts in
    elim (cases_Bool (nat_eq t.var.0 v))
    as (λ _. length (owned v n (t ∷ ts)) ≡ count_by (λ t. nat_eq (var_of t) v) (t ∷ ts)) [
      | inl is ↦ let one = ap bit is in
          ap length (owned_one v n t ts true is) ∙ omega (arith, all, one, more)
      | inr is ↦ let one = ap bit is in
          ap length (owned_one v n t ts false is) ∙ omega (arith, all, one, more)
    ]

abbrev pub lower : ℕ → Strand → Bool
lower v t = nat_lt t.var.0 v

one_split : (v : ℕ) (t : Strand)
    → bit (lower (v + 1) t) ≡ bit (lower v t) + bit (nat_eq (var_of t) v)
one_split v t = grind (arith, nat_tests)

count_split : (v : ℕ) (ts : List Strand)
    → count_by (lower (v + 1)) ts ≡ count_by (lower v) ts + count_by (λ t. nat_eq (var_of t) v) ts
count_split v [] = refl
count_split v (t ∷ ts) =
    let x = count-cons (lower (v + 1)) t ts in
    let y = count-cons (lower v) t ts in
    let z = count-cons (λ t. nat_eq (var_of t) v) t ts in
    let o = one_split v t in
    let more = count_split v ts in
    omega (arith, x, y, z, o, more)

starts : (ts : List Strand) (m i : ℕ)
    → count_by (lower m) ts + length (flat_map (λ v. owned v 0 ts) (range_with_len m i))
    ≡ count_by (lower (m + i)) ts
starts ts m zero = let e : m + 0 ≡ m = omega arith in rw e (omega arith)
starts ts m (suc i) =
    let long = length-append (owned m 0 ts)
    (flat_map (λ v. owned v 0 ts) (range_with_len (m + 1) i)) in
    let here = owned_long m 0 ts in
    let split = count_split m ts in
    let more = starts ts (m + 1) i in
    let e : m + 1 + i ≡ m + suc i = omega arith in
    rw (← e) (omega (arith, long, here, split, more))

none_lower : (t : Strand) → lower 0 t ≡ false
none_lower t = grind (arith, nat_tests)

start_is : (ts : List Strand) (v : ℕ)
    → length (flat_map (λ v. owned v 0 ts) (range_with_len 0 v)) ≡ count_by (lower v) ts
start_is ts v =
    let none = count-none (lower 0) ts (λ k d lt. none_lower (get_or ts k d)) in
    let all = starts ts 0 v in
    let e : count_by (lower (0 + v)) ts ≡ count_by (lower v) ts
    = ap (λ k. count_by (lower k) ts) (let z : 0 + v ≡ v = omega arith in z) in
    omega (arith, none, all, e)

ranges : (a m n : ℕ) → range_with_len a (m + n) ≡ range_with_len a m ++ range_with_len (a + m) n
ranges a zero n =
    ap (range_with_len a) (let e : 0 + n ≡ n = omega arith in e)
    ∙ ap (λ k. range_with_len k n) (let e : a ≡ a + 0 = omega arith in e)
ranges a (suc m) n =
    ap (range_with_len a) (let e : suc m + n ≡ suc (m + n) = omega arith in e)
    ∙ ap (λ xs. a ∷ xs) (ranges (a + 1) m n
    ∙ ap (λ k. range_with_len (a + 1) m ++ range_with_len k n)
    (let e : a + 1 + m ≡ a + suc m = omega arith in e))

-- the slice from one beginning to the next
part_of : (ts : List Strand) (v n : ℕ) → v < n
    → slice_range (flat_map (λ v. owned v 0 ts) (range_with_len 0 n)) (count_by (lower v) ts)
    (count_by (lower (v + 1)) ts) ≡ owned v 0 ts
part_of ts v n lt =
    let f : ℕ → List ℕ = λ v. owned v 0 ts in
    let e : n ≡ v + suc (n - v - 1) = omega (arith, lt) in
    let z : 0 + v ≡ v = omega arith in
    let front = flat_map f (range_with_len 0 v) in
    let back = flat_map f (range_with_len (v + 1) (n - v - 1)) in
    let whole : flat_map f (range_with_len 0 n) ≡ front ++ (owned v 0 ts ++ back) =
    ap (λ k. flat_map f (range_with_len 0 k)) e
    ∙ ap (flat_map f) (ranges 0 v (suc (n - v - 1)))
    ∙ flat_map-append f (range_with_len 0 v) (range_with_len (0 + v) (suc (n - v - 1)))
    ∙ ap (λ k. front ++ flat_map f (range_with_len k (suc (n - v - 1)))) z in
    let from = start_is ts v in
    let split = count_split v ts in
    let long = owned_long v 0 ts in
    let size : count_by (lower (v + 1)) ts - count_by (lower v) ts ≡ length (owned v 0 ts)
    = omega (arith, split, long) in
    ap (λ k. take k (drop (count_by (lower v) ts) (flat_map f (range_with_len 0 n)))) size
    ∙ ap (λ xs. take (length (owned v 0 ts)) (drop (count_by (lower v) ts) xs)) whole
    ∙ ap (λ k. take (length (owned v 0 ts)) (drop k (front ++ (owned v 0 ts ++ back)))) (sym from)
    ∙ ap (take (length (owned v 0 ts))) (drop-append_seam front (owned v 0 ts ++ back))
    ∙ take-append_seam (owned v 0 ts) back

module _ (net : Net) (formed : IsFormed net) where
  pub vars_long : length net.index.vars ≡ var_count net.strands + 1
  vars_long = ap (λ (i : NetIndex). length i.vars) formed.index
      ∙ length-map-range_with_len (λ v. count_by (lower v) net.strands) 0
      (var_count net.strands + 1)

  pub vars_begin : (v : ℕ) → v < length net.index.vars
      → get_or net.index.vars v 0 ≡ count_by (lower v) net.strands
  vars_begin v lt =
      let long = vars_long in
      let in_ : v < var_count net.strands + 1 = omega (arith, lt, long) in
      ap (λ (i : NetIndex). get_or i.vars v 0) formed.index
      ∙ get_or-map-range_with_len (λ v. count_by (lower v) net.strands) 0
      (var_count net.strands + 1) v v 0 in_ (omega arith)

  pub vars_are : (v from to : ℕ) → v + 1 < length net.index.vars
      → from ≡ count_by (lower v) net.strands → to ≡ count_by (lower (v + 1)) net.strands
      → slice_range net.index.of_vars from to ≡ owned v 0 net.strands
  vars_are v from to lt is_from is_to =
      let long = vars_long in
      ap (λ (i : NetIndex). slice_range i.of_vars from to) formed.index
      ∙ (λ i. slice_range (flat_map (λ v. owned v 0 net.strands)
      (range_with_len 0 (var_count net.strands))) (is_from i) (is_to i))
      ∙ part_of net.strands v (var_count net.strands) (omega (arith, lt, long))

  pub vars_rise : (v : ℕ)
      → count_by (lower v) net.strands ≤ count_by (lower (v + 1)) net.strands
  vars_rise v = let split = count_split v net.strands in omega (arith, split)

  pub vars_within : (v : ℕ) → v + 1 < length net.index.vars
      → count_by (lower (v + 1)) net.strands ≤ length net.index.of_vars
  vars_within v lt =
      let long = vars_long in
      let n = var_count net.strands in
      let f : ℕ → List ℕ = λ v. owned v 0 net.strands in
      let e : n ≡ v + 1 + (n - v - 1) = omega (arith, lt, long) in
      let size = ap (λ (i : NetIndex). length i.of_vars) formed.index
      ∙ ap (λ k. length (flat_map f (range_with_len 0 k))) e
      ∙ ap (λ xs. length (flat_map f xs)) (ranges 0 (v + 1) (n - v - 1))
      ∙ ap length (flat_map-append f (range_with_len 0 (v + 1))
      (range_with_len (0 + (v + 1)) (n - v - 1)))
      ∙ length-append (flat_map f (range_with_len 0 (v + 1)))
      (flat_map f (range_with_len (0 + (v + 1)) (n - v - 1))) in
      let front = start_is net.strands (v + 1) in
      omega (arith, size, front)

-- beyond the greatest variable there is none
pub no_more : (ts : List Strand) (v i : ℕ) → var_count ts ≤ v → i < length ts
    → nat_eq (get_or ts i no_strand).var.0 v ≡ false
no_more [] v i le lt = absurd (omega (arith, lt))
no_more (t ∷ ts) v zero le lt = ne_eqb t.var.0 v (λ same. omega (arith, same, le))
no_more (t ∷ ts) v (suc i) le lt = no_more ts v i (omega (arith, le)) (omega (arith, lt))
