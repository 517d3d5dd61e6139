-- The ties that go to a strand lie together.
use Rattle.std.proofs.Common.{cond, ℕ, zero, suc, ◌≡◌, ◌+◌, ◌-◌, ◌<◌, ◌≤◌, Bool, true, false, eqb}
use Rattle.std.proofs.Common.{ℤ, List, [], ◌∷◌, ◌++◌, length, get_or, count_by, All, Some, None}
use Rattle.std.proofs.Common.{refl, sym, subst, ap, ◌∙◌, inl, inr, arith}
use Rattle.std.specs.Prelude.{nat_lt, nat_eq}
use Rattle.std.specs.List.{range_with_len, enumerate_from, flat_map, filter_map}
use Rattle.std.proofs.lemmas.Int.{ints}
use Rattle.std.proofs.lemmas.Bool.{cases_Bool, cases_eq, eq-eqb, ne_eqb, and_from, and_left}
use Rattle.std.proofs.lemmas.Bool.Decides.{nat_tests}
use Rattle.std.proofs.lemmas.List.{length-append, get_or-append_right, get_or_append_left}
use Rattle.std.proofs.lemmas.List.FromFn.{length-map-range_with_len, get_or-map-range_with_len}
use Rattle.std.proofs.lemmas.List.Elements.{All-nil, All-cons}
use Rattle.pra_list.proofs.Counts.{bit, count-cons, count-none}
use Rattle.pra_base.specs.declared.ids.Place.{Place}
use Rattle.net_form.specs.declared.net.Net.{Net}
use Rattle.net_form.specs.declared.net.NetIndex.{NetIndex}
use Rattle.net_form.specs.declared.net.Tie.{Tie}
use Rattle.net_form.specs.declared.prices.Prices.{Prices}
use Rattle.net_form.specs.Admitted.{strand_at}
use Rattle.net_form.specs.Formed.{IsFormed}
use Rattle.net_dual.specs.Priced.{total, pay, enters, entry_part, tie_price}
use Rattle.net_path.specs.Grounds.{edge}
use Rattle.net_path.specs.Ties.{entry_ties}

-- ---- lists that are made one after another

module _ {X : Type 0} (f : ℕ → List X) where
  pub lies : (m i n j : ℕ) (d : X) → i < n → j < length (f (m + i))
      → get_or (flat_map f (range_with_len m n)) (length (flat_map f (range_with_len m i)) + j) d
      ≡ get_or (f (m + i)) j d
  lies m i zero j d lt in_ = absurd (omega (arith, lt))
  lies m zero (suc n) j d lt in_ =
      let e : m + 0 ≡ m = omega arith in
      let k : 0 + j ≡ j = omega arith in
      let inn : j < length (f m) = rw e at in_ in
      rw (e, k) (get_or_append_left (f m) (flat_map f (range_with_len (m + 1) n)) d j inn)
  lies m (suc i) (suc n) j d lt in_ =
      let e : m + 1 + i ≡ m + suc i = omega arith in
      let inn : j < length (f (m + 1 + i)) = rw e in_ in
      let more = lies (m + 1) i n j d (omega (arith, lt)) inn in
      let long = length-append (f m) (flat_map f (range_with_len (m + 1) i)) in
      let at : length (f m ++ flat_map f (range_with_len (m + 1) i)) + j ≡ length (f m)
      + (length (flat_map f (range_with_len (m + 1) i)) + j) = omega (arith, long) in
      let back : length (f m) + (length (flat_map f (range_with_len (m + 1) i)) + j) - length (f m)
      ≡ length (flat_map f (range_with_len (m + 1) i)) + j = omega arith in
      ap (λ (k : ℕ). get_or (f m ++ flat_map f (range_with_len (m + 1) n)) k d) at
      ∙ get_or-append_right (f m) (flat_map f (range_with_len (m + 1) n)) (length (f m))
      (length (f m) + (length (flat_map f (range_with_len (m + 1) i)) + j)) d refl (omega arith)
      ∙ ap (λ (k : ℕ). get_or (flat_map f (range_with_len (m + 1) n)) k d) back
      ∙ more ∙ ap (λ (k : ℕ). get_or (f k) j d) e

-- ---- the ties that come to a strand

abbrev arriving : List Tie → ℕ → ℕ → List ℕ
arriving ts n s =
    filter_map (λ (t : ℕ × Tie). cond (nat_eq t.1.to s) (Some t.0) None) (enumerate_from n ts)

abbrev pub comes_before : ℕ → Tie → Bool
comes_before s t = nat_lt t.to s

abbrev pub comes : ℕ → Tie → Bool
comes s t = nat_eq t.to s

arriving_one : (n s : ℕ) (t : Tie) (ts : List Tie) (b : Bool) → nat_eq t.to s ≡ b
    → arriving (t ∷ ts) n s ≡ cond b (n ∷ arriving ts (n + 1) s) (arriving ts (n + 1) s)
arriving_one n s t ts true is = rw is refl
arriving_one n s t ts false is = rw is refl

pub arriving_long : (n s : ℕ) (ts : List Tie) → length (arriving ts n s) ≡ count_by (comes s) ts
arriving_long n s [] = refl
arriving_long n s (t ∷ ts) = elim (cases_Bool (nat_eq t.to s))
    as (λ _. length (arriving (t ∷ ts) n s) ≡ count_by (comes s) (t ∷ ts)) [
      | inl is ↦
          let all = count-cons (comes s) t ts in
          let one : cond (nat_eq t.to s) 1 0 ≡ cond true 1 0 = ap (λ (b : Bool). bit b) is in
          let more = arriving_long (n + 1) s ts in
          ap length (arriving_one n s t ts true is) ∙ omega (arith, all, one, more)
      | inr is ↦
          let all = count-cons (comes s) t ts in
          let one : cond (nat_eq t.to s) 1 0 ≡ cond false 1 0 = ap (λ (b : Bool). bit b) is in
          let more = arriving_long (n + 1) s ts in
          ap length (arriving_one n s t ts false is) ∙ omega (arith, all, one, more)
    ]

one_split : (s : ℕ) (t : Tie)
    → cond (nat_lt t.to (s + 1)) 1 0 ≡ cond (nat_lt t.to s) 1 0 + cond (nat_eq t.to s) 1 0
one_split s t = grind (arith, nat_tests)

count_split : (s : ℕ) (ts : List Tie)
    → count_by (comes_before (s + 1)) ts ≡ count_by (comes_before s) ts + count_by (comes s) ts
count_split s [] = refl
count_split s (t ∷ ts) =
    let x = count-cons (comes_before (s + 1)) t ts in
    let y = count-cons (comes_before s) t ts in
    let z = count-cons (comes s) t ts in
    let o = one_split s t in
    let more = count_split s ts in
    omega (arith, x, y, z, o, more)

none_below : (t : Tie) → comes_before 0 t ≡ false
none_below t = grind (arith, nat_tests)

starts : (ts : List Tie) (m i : ℕ) → count_by (comes_before m) ts
    + length (flat_map (arriving ts 0) (range_with_len m i)) ≡ count_by (comes_before (m + i)) ts
starts ts m zero = let e : m + 0 ≡ m = omega arith in rw e (omega arith)
starts ts m (suc i) =
    let long =
    length-append (arriving ts 0 m) (flat_map (arriving ts 0) (range_with_len (m + 1) i)) in
    let here = arriving_long 0 m ts in
    let split = count_split m ts in
    let more = starts ts (m + 1) i in
    let e : m + 1 + i ≡ m + suc i = omega arith in
    rw (← e) (omega (arith, long, here, split, more))

pub start_is : (ts : List Tie) (s : ℕ)
    → length (flat_map (arriving ts 0) (range_with_len 0 s)) ≡ count_by (comes_before s) ts
start_is ts s =
    let none = count-none (comes_before 0) ts (λ k d lt. none_below (get_or ts k d)) in
    let all = starts ts 0 s in
    let e : 0 + s ≡ s = omega arith in
    let all2 = rw e at all in
    omega (arith, none, all2)

arriving_within : (s n m : ℕ) (ts : List Tie) → n + length ts ≤ m
    → All (λ i. i < m) (arriving ts n s)
arriving_within s n m [] le = All-nil (λ i. i < m)
arriving_within s n m (t ∷ ts) le =
    elim (cases_Bool (nat_eq t.to s)) as (λ _. All (λ i. i < m) (arriving (t ∷ ts) n s)) [
      | inl is ↦
          subst (All (λ i. i < m)) (sym (arriving_one n s t ts true is))
          (All-cons (λ i. i < m) n (arriving ts (n + 1) s) (omega (arith, le))
          (arriving_within s (n + 1) m ts (omega (arith, le))))
      | inr is ↦
          subst (All (λ i. i < m)) (sym (arriving_one n s t ts false is))
          (arriving_within s (n + 1) m ts (omega (arith, le)))
    ]

-- what a test of the element sums to
pub sum_arriving : (g : ℕ → ℤ) (s n : ℕ) (ts : List Tie) → total g (arriving ts n s)
    ≡ total (λ (t : ℕ × Tie). pay (nat_eq t.1.to s) (g t.0)) (enumerate_from n ts)
sum_arriving g s n [] = refl
sum_arriving g s n (t ∷ ts) =
    elim (cases_Bool (nat_eq t.to s)) as (λ _. total g (arriving (t ∷ ts) n s)
    ≡ total (λ (t : ℕ × Tie). pay (nat_eq t.1.to s) (g t.0)) (enumerate_from n (t ∷ ts))) [
      | inl is ↦
          let one = ap (λ (b : Bool). pay b (g n)) is in
          let more = sum_arriving g s (n + 1) ts in
          let left = ap (total g) (arriving_one n s t ts true is) in
          omega (arith, ints, one, more, left)
      | inr is ↦
          let one = ap (λ (b : Bool). pay b (g n)) is in
          let more = sum_arriving g s (n + 1) ts in
          let left = ap (total g) (arriving_one n s t ts false is) in
          omega (arith, ints, one, more, left)
    ]

module _ (net : Net) (formed : IsFormed net) where
  pub entries_long : length net.index.entries ≡ length net.strands + 1
  entries_long = ap (λ (i : NetIndex). length i.entries) formed.index
      ∙ length-map-range_with_len (λ s. count_by (λ (t : Tie). nat_lt t.to s) net.ties) 0
      (length net.strands + 1)

  pub entries_begin : (s : ℕ) → s ≤ length net.strands
      → get_or net.index.entries s 0 ≡ count_by (comes_before s) net.ties
  entries_begin s le = ap (λ (i : NetIndex). get_or i.entries s 0) formed.index
      ∙ get_or-map-range_with_len (λ s. count_by (λ (t : Tie). nat_lt t.to s) net.ties) 0
      (length net.strands + 1) s s 0 (omega (arith, le)) (omega arith)

  pub entries_end : (s : ℕ) → s < length net.strands → get_or net.index.entries (s + 1) 0
      ≡ get_or net.index.entries s 0 + length (entry_ties net s)
  entries_end s lt =
      let a = entries_begin s (omega (arith, lt)) in
      let b = entries_begin (s + 1) (omega (arith, lt)) in
      let sum = count_split s net.ties in
      let long = arriving_long 0 s net.ties in
      omega (arith, a, b, sum, long)

  pub arrivals_long : length net.index.arrivals
      ≡ count_by (comes_before (length net.strands)) net.ties
  arrivals_long = ap (λ (i : NetIndex). length i.arrivals) formed.index
      ∙ start_is net.ties (length net.strands)

  -- and there they are
  pub arrivals_there : (s j : ℕ) → s < length net.strands → j < length (entry_ties net s)
      → get_or net.index.arrivals (get_or net.index.entries s 0 + j) 0
      ≡ get_or (entry_ties net s) j 0
  arrivals_there s j lt in_ =
      let e : 0 + s ≡ s = omega arith in
      let is = lies (arriving net.ties 0) 0 s (length net.strands) j 0 lt (rw e in_) in
      let begin = entries_begin s (omega (arith, lt)) ∙ sym (start_is net.ties s) in
      ap (λ (i : NetIndex). get_or i.arrivals (get_or net.index.entries s 0 + j) 0) formed.index
      ∙ ap (λ (k : ℕ). get_or
      (flat_map (arriving net.ties 0) (range_with_len 0 (length net.strands))) (k + j) 0) begin
      ∙ is ∙ ap (λ (k : ℕ). get_or (arriving net.ties 0 k) j 0) e

  pub entries_within : (s : ℕ) → All (λ i. i < length net.ties) (entry_ties net s)
  entries_within s = arriving_within s 0 (length net.ties) net.ties (omega arith)

  monotone : (s t : ℕ) (ts : List Tie) → s ≤ t
      → count_by (comes_before s) ts ≤ count_by (comes_before t) ts
  monotone s t [] le = omega arith
  monotone s t (x ∷ xs) le =
      let a = count-cons (comes_before s) x xs in
      let b = count-cons (comes_before t) x xs in
      let one : cond (nat_lt x.to s) 1 0 ≤ cond (nat_lt x.to t) 1 0 = grind (arith, nat_tests) in
      let more = monotone s t xs le in
      omega (arith, a, b, one, more)

  pub entries_few : (s : ℕ) → s < length net.strands
      → get_or net.index.entries (s + 1) 0 ≤ length net.index.arrivals
  entries_few s lt =
      let b = entries_begin (s + 1) (omega (arith, lt)) in
      let long = arrivals_long in
      let le = monotone (s + 1) (length net.strands) net.ties (omega (arith, lt)) in
      omega (arith, b, long, le)

  -- the sum of their numbers is what the entry pays
  enters_is : (s : ℕ) (place : Place) (t : Tie)
      → nat_eq t.to s ≡ enters net t (edge s (strand_at net s).first None place)
  enters_is s place t = elim (cases_eq t.to s)
      as (λ _. nat_eq t.to s ≡ enters net t (edge s (strand_at net s).first None place)) [
        | inl is ↦ eq-eqb t.to s is ∙ sym (and_from (eqb s t.to)
            (eqb (strand_at net s).first (strand_at net t.to).first) (eq-eqb s t.to (sym is))
            (eq-eqb (strand_at net s).first (strand_at net t.to).first
            (ap (λ (k : ℕ). (strand_at net k).first) (sym is))))
        | inr other ↦ ne_eqb t.to s other
            ∙ sym (and_left (eqb s t.to) (eqb (strand_at net s).first (strand_at net t.to).first)
            (ne_eqb s t.to (λ e. other (sym e))))
      ]

  pub entry_sum : (prices : Prices) (s : ℕ) (place : Place)
      → total (λ i. tie_price prices i place) (entry_ties net s)
      ≡ entry_part net prices (edge s (strand_at net s).first None place)
  entry_sum prices s place = sum_arriving (λ i. tie_price prices i place) s 0 net.ties
      ∙ agree 0 net.ties where
        agree : (n : ℕ) (ts : List Tie)
            → total (λ (t : ℕ × Tie). pay (nat_eq t.1.to s) (tie_price prices t.0 place))
            (enumerate_from n ts)
            ≡ total
            (λ (t : ℕ × Tie). pay (enters net t.1 (edge s (strand_at net s).first None place))
            (tie_price prices t.0 place)) (enumerate_from n ts)
        agree n [] = refl
        agree n (t ∷ ts) =
            let one = ap (λ (b : Bool). pay b (tie_price prices n place)) (enters_is s place t) in
            let more = agree (n + 1) ts in
            omega (arith, ints, one, more)
