-- Extras in order: where those of a strand at a layer stand, and what they cost.
use Rattle.std.proofs.Common.{ℕ, zero, suc, ◌≡◌, ◌+◌, ◌<◌, ◌≤◌, Bool, true, false, ◌&&◌, ◌||◌, cond}
use Rattle.std.proofs.Common.{eqb, List, [], ◌∷◌, length, get_or, slice_get, count_by, sum_by, Some}
use Rattle.std.proofs.Common.{None, refl, sym, ap, ◌∙◌, subst, arith, inl, inr}
use Rattle.std.specs.List.{AllPairs}
use Rattle.std.specs.Prelude.{nat_lt}
use Rattle.std.proofs.lemmas.Bool.{cases_Bool, cases_eq, cases_lt, false_from_ne_true, both_ways}
use Rattle.std.proofs.lemmas.Bool.Decides.{nat_tests}
use Rattle.std.proofs.lemmas.List.Sums.{sum_by-cons, count_by-le-length}
use Rattle.std.proofs.lemmas.List.FromFn.{length-map-range_with_len, get_or-map-range_with_len}
use Rattle.pra_list.proofs.Counts.{count-cons, count-yes, count-no, count-agree}
use Rattle.pra_base.specs.declared.ids.Place.{Place}
use Rattle.pra_base.specs.Places.{number}
use Rattle.net_form.specs.declared.net.Extra.{Extra}
use Rattle.net_cost.specs.declared.weights.Weights.{Weights}
use Rattle.net_form.specs.declared.net.Net.{Net}
use Rattle.net_form.specs.declared.net.NetIndex.{NetIndex}
use Rattle.net_form.specs.Admitted.{strand_at}
use Rattle.net_form.specs.Cost.{is_extra_at, extra_cost, extras_cost}
use Rattle.net_form.specs.Formed.{IsFormed}
use Rattle.net_form.specs.Ordered.{ExtraBefore, AreExtras, is_earlier, first_extra, extra_there}
use Rattle.net_form.specs.Ordered.ExtraBefore.{strand, layer, place}

-- ---- lists in order, and a test that all pass from the front on to some element

module _ {X : Type 0} (p : X → Bool) where
  -- so many pass, if those before pass and the others do not
  pub front_count : (xs : List X) (at : ℕ) → at ≤ length xs →
      ((k : ℕ) (d : X) → k < at → p (get_or xs k d) ≡ true)
      → ((k : ℕ) (d : X) → at ≤ k → k < length xs → p (get_or xs k d) ≡ false) → at ≡ count_by p xs
  front_count [] at le before behind = omega (arith, le)
  front_count (x ∷ xs) zero le before behind =
      let here = count-no p x xs (behind 0 x (omega arith) (omega arith)) in
      let more = front_count xs 0 (omega arith) (λ k d lt. absurd (omega (arith, lt)))
      (λ k d _ lt. behind (suc k) d (omega arith) (omega (arith, lt))) in
      omega (arith, here, more)
  front_count (x ∷ xs) (suc at) le before behind =
      let here = count-yes p x xs (before 0 x (omega arith)) in
      let more = front_count xs at (omega (arith, le))
      (λ k d lt. before (suc k) d (omega (arith, lt)))
      (λ k d ge lt. behind (suc k) d (omega (arith, ge)) (omega (arith, lt))) in
      omega (arith, here, more)

  module _ (R : X → X → Type 0) (falls : (x y : X) → R x y → p y ≡ true → p x ≡ true) where
    tail_pairs : (x : X) (xs : List X) → AllPairs R (x ∷ xs) → AllPairs R xs
    tail_pairs x xs pairs i j d lt in_ = pairs (suc i) (suc j) d (omega (arith, lt))
        (omega (arith, in_))

    none_behind : (x : X) (xs : List X) → AllPairs R (x ∷ xs) → p x ≡ false → (k : ℕ) (d : X) →
        k < length xs → p (get_or xs k d) ≡ false
    none_behind x xs pairs fails k d lt = false_from_ne_true (p (get_or xs k d))
        (λ passes. both_ways (p x) fails
        (falls x (get_or xs k d) (pairs 0 (suc k) d (omega arith) (omega (arith, lt))) passes))

    pub front_passes : (xs : List X) → AllPairs R xs → (k : ℕ) (d : X) → k < count_by p xs →
        k < length xs → p (get_or xs k d) ≡ true
    front_passes [] pairs k d lt in_ = absurd (omega (arith, in_))
    front_passes (x ∷ xs) pairs zero d lt in_ = elim (cases_Bool (p x)) as (λ _. p x ≡ true) [
      | inl passes ↦ passes
      | inr fails ↦
          let none = front_count (x ∷ xs) 0 (omega arith) (λ k d lt. absurd (omega (arith, lt)))
          (all_fail x xs pairs fails) in
          absurd (omega (arith, none, lt))
    ]
      where
        all_fail : (x : X) (xs : List X) → AllPairs R (x ∷ xs) → p x ≡ false → (k : ℕ) (d : X) →
            0 ≤ k → k < length (x ∷ xs) → p (get_or (x ∷ xs) k d) ≡ false
        all_fail x xs pairs fails zero d _ lt = fails
        all_fail x xs pairs fails (suc k) d _ lt = none_behind x xs pairs fails k d
            (omega (arith, lt))
    front_passes (x ∷ xs) pairs (suc k) d lt in_ =
        let all = count-cons p x xs in
        let bit = at_most_one (p x) in
        front_passes xs (tail_pairs x xs pairs) k d (omega (arith, lt, all, bit))
        (omega (arith, in_))
      where
        at_most_one : (b : Bool) → cond b 1 0 ≤ 1
        at_most_one true = omega arith
        at_most_one false = omega arith

    pub behind_fails : (xs : List X) → AllPairs R xs → (k : ℕ) (d : X) → count_by p xs ≤ k →
        k < length xs → p (get_or xs k d) ≡ false
    behind_fails [] pairs k d ge in_ = absurd (omega (arith, in_))
    behind_fails (x ∷ xs) pairs zero d ge in_ =
        false_from_ne_true (p x) (λ passes. let all = count-yes p x xs passes in
        absurd (omega (arith, all, ge)))
    behind_fails (x ∷ xs) pairs (suc k) d ge in_ =
        elim (cases_Bool (p x)) as (λ _. p (get_or xs k d) ≡ false) [
          | inl passes ↦ let all = count-yes p x xs passes in
              behind_fails xs (tail_pairs x xs pairs) k
              d (omega (arith, all, ge)) (omega (arith, in_))
          | inr fails ↦ none_behind x xs pairs fails k d (omega (arith, in_))
        ]

-- a sum to which one element alone contributes
module _ {X : Type 0} (q : X → Bool) (c : X → ℕ) where
  abbrev pub kept : X → ℕ
  kept x = cond (q x) (c x) 0

  pub sum_none : (xs : List X) → ((k : ℕ) (d : X) → k < length xs → q (get_or xs k d) ≡ false) →
      sum_by kept xs ≡ 0
  sum_none [] none = refl
  sum_none (x ∷ xs) none =
      let all = sum_by-cons kept x xs in
      let here = ap (λ b. cond b (c x) 0) (none 0 x (omega arith)) in
      let more = sum_none xs (λ k d lt. none (suc k) d (omega (arith, lt))) in
      omega (arith, all, here, more)

  pub sum_one : (R : X → X → Type 0) → ((x y : X) → R x y → q x ≡ true → q y ≡ true → ⊥) →
      (xs : List X) → AllPairs R xs
      → (k : ℕ) (d : X) → k < length xs → q (get_or xs k d) ≡ true → sum_by kept xs ≡
      c (get_or xs k d)
  sum_one R apart [] pairs k d lt is = absurd (omega (arith, lt))
  sum_one R apart (x ∷ xs) pairs zero d lt is =
      let all = sum_by-cons kept x xs in
      let here = ap (λ b. cond b (c x) 0) is in
      let more = sum_none xs (λ k d lt. false_from_ne_true (q (get_or xs k d))
      (λ too. apart x (get_or xs k d) (pairs 0 (suc k) d (omega arith) (omega (arith, lt))) is
      too)) in
      omega (arith, all, here, more)
  sum_one R apart (x ∷ xs) pairs (suc k) d lt is =
      let all = sum_by-cons kept x xs in
      let fails = false_from_ne_true (q x)
      (λ too. apart x (get_or xs k d) (pairs 0 (suc k) d (omega arith) (omega (arith, lt))) too
      is) in
      let here = ap (λ b. cond b (c x) 0) fails in
      let more = sum_one R apart xs
      (λ i j e lt in_. pairs (suc i) (suc j) e (omega (arith, lt)) (omega (arith, in_))) k d
      (omega (arith, lt)) is in
      omega (arith, all, here, more)

-- ---- extras

module _ (s l : ℕ) where
  abbrev pub is_there : Extra → Bool
  is_there x = eqb x.strand s && eqb x.layer l

  pub earlier_falls : (x y : Extra) → ExtraBefore x y → is_earlier s l y ≡ true → is_earlier s l x ≡
      true
  earlier_falls x y (strand lt) is = grind (arith, nat_tests)
  earlier_falls x y (layer same lt) is = grind (arith, nat_tests)
  earlier_falls x y (place same at lt) is = grind (arith, nat_tests)

  -- who stands there is not earlier, but earlier than the next layer
  pub there_before : (x : Extra) → is_there x ≡ true → is_earlier s (l + 1) x ≡ true
  there_before x is = grind (arith, nat_tests)

  pub earlier_before : (x : Extra) → is_earlier s l x ≡ true → is_earlier s (l + 1) x ≡ true
  earlier_before x is = grind (arith, nat_tests)

  pub earlier_not_there : (x : Extra) → is_earlier s l x ≡ true → is_there x ≡ false
  earlier_not_there x is = grind (arith, nat_tests)

  pub behind_both : (x : Extra) → is_earlier s l x ≡ false → is_there x ≡ false →
      is_earlier s (l + 1) x ≡ false
  behind_both x fails here = grind (arith, nat_tests)

  pub later_not_there : (x y : Extra) → ExtraBefore x y → is_earlier s l x ≡ false → is_there x ≡
      false → is_there y ≡ false
  later_not_there x y (strand lt) fails here = grind (arith, nat_tests)
  later_not_there x y (layer same lt) fails here = grind (arith, nat_tests)
  later_not_there x y (place same at lt) fails here = grind (arith, nat_tests)

  pub apart_places : (p : Place) (x y : Extra) → ExtraBefore x y → is_extra_at s l p x ≡ true →
      is_extra_at s l p y ≡ true → ⊥
  apart_places p x y (strand lt) one other = grind (arith, nat_tests)
  apart_places p x y (layer same lt) one other = grind (arith, nat_tests)
  apart_places p x y (place same at lt) one other = grind (arith, nat_tests)

  pub meets_place : (p : Place) (x : Extra) → is_there x ≡ true → eqb (number x.place) (number p) ≡
      true → is_extra_at s l p x ≡ true
  meets_place p x here same = grind (arith, nat_tests)

  pub other_place : (p : Place) (x : Extra) → eqb (number x.place) (number p) ≡ false →
      is_extra_at s l p x ≡ false
  other_place p x other = grind (arith, nat_tests)

  -- who is at no place of the layer
  pub nowhere : (p : Place) (x : Extra) → is_there x ≡ false → is_extra_at s l p x ≡ false
  nowhere p x fails = grind (arith, nat_tests)

  pub found : (xs : List Extra) (at : ℕ) (x : Extra) → extra_there s l (slice_get xs at) ≡ Some x →
      (at < length xs) × ((d : Extra) → get_or xs at d ≡ x) × (is_there x ≡ true)
  found [] at x is = absurd (let e : None ≡ Some x = is in cc)
  found (y ∷ ys) zero x is =
      elim (cases_Bool (is_there y)) as (λ _. (0 < length (y ∷ ys)) ×
      ((d : Extra) → get_or (y ∷ ys) 0 d ≡ x) × (is_there x ≡ true)) [
        | inl here ↦
            let same : y ≡ x = let e : Some y ≡ Some x = sym (ap (λ b. cond b (Some y) None) here)
            ∙ is in cc in
            (omega arith, λ d. same, subst (λ z. is_there z ≡ true) same here)
        | inr other ↦ absurd (let e : None ≡ Some x = sym (ap (λ b. cond b (Some y) None) other)
            ∙ is in
            cc)
      ]
  found (y ∷ ys) (suc at) x is = let more = found ys at x is in
      (let lt = more.0 in omega (arith, lt), more.1, more.2)

  pub missing : (xs : List Extra) (at : ℕ) (d : Extra) → at < length xs →
      extra_there s l (slice_get xs at) ≡ None → is_there (get_or xs at d) ≡ false
  missing [] at d lt is = absurd (omega (arith, lt))
  missing (y ∷ ys) zero d lt is = false_from_ne_true (is_there y)
      (λ here. absurd (let e : Some y ≡ None = sym (ap (λ b. cond b (Some y) None) here) ∙ is in
      cc))
  missing (y ∷ ys) (suc at) d lt is = missing ys at d (omega (arith, lt)) is

  -- nobody behind stands at the layer, if the first of them does not
  pub none_there : (xs : List Extra) → AllPairs ExtraBefore xs → (at : ℕ) →
      extra_there s l (slice_get xs at) ≡ None
      → ((k : ℕ) (d : Extra) → at ≤ k → k < length xs → is_earlier s l (get_or xs k d) ≡ false)
      → (k : ℕ) (d : Extra) → at ≤ k → k < length xs → is_there (get_or xs k d) ≡ false
  none_there xs pairs at is behind k d ge lt =
      elim (cases_eq at k) as (λ _. is_there (get_or xs k d) ≡ false) [
        | inl same ↦ subst (λ n. is_there (get_or xs n d) ≡ false) same
            (missing xs at d (omega (arith, same, lt)) is)
        | inr other ↦
            let in_ : at < length xs = omega (arith, ge, lt) in
            later_not_there (get_or xs at d) (get_or xs k d)
            (pairs at k d (omega (arith, ge, other)) lt) (behind at d (omega arith) in_)
            (missing xs at d in_ is)
      ]

-- ---- the extras of a network

module _ (net : Net) (are : AreExtras net) (s l : ℕ) where
  abbrev xs : List Extra
  xs = net.extras

  pub first_within : first_extra net s l ≤ length xs
  first_within = count_by-le-length (is_earlier s l) xs

  pub all_before : (k : ℕ) (d : Extra) → k < first_extra net s l → is_earlier s l (get_or xs k d) ≡
      true
  all_before k d lt = front_passes (is_earlier s l) ExtraBefore (earlier_falls s l) xs are.order k d
      lt (let le = first_within in omega (arith, le, lt))

  pub all_behind : (k : ℕ) (d : Extra) → first_extra net s l ≤ k → k < length xs →
      is_earlier s l (get_or xs k d) ≡ false
  all_behind k d ge lt = behind_fails (is_earlier s l) ExtraBefore (earlier_falls s l) xs are.order
      k d ge lt

  -- where the next layer begins
  pub next_first : (at : ℕ) → first_extra net s l ≤ at → at ≤ length xs →
      ((k : ℕ) (d : Extra) → k < at → is_earlier s (l + 1) (get_or xs k d) ≡ true)
      → extra_there s l (slice_get xs at) ≡ None → at ≡ first_extra net s (l + 1)
  next_first at ge le before none = front_count (is_earlier s (l + 1)) xs at le before
      (λ k d past lt.
      behind_both s l (get_or xs k d) (all_behind k d (omega (arith, ge, past)) lt)
      (none_there s l xs are.order at none
      (λ j e from in_. all_behind j e (omega (arith, ge, from)) in_) k d past lt))

  -- one more that stands at the layer
  pub still_before : (at : ℕ) (x : Extra) → extra_there s l (slice_get xs at) ≡ Some x →
      ((k : ℕ) (d : Extra) → k < at → is_earlier s (l + 1) (get_or xs k d) ≡ true)
      → (k : ℕ) (d : Extra) → k < at + 1 → is_earlier s (l + 1) (get_or xs k d) ≡ true
  still_before at x is before k d lt =
      elim (cases_eq k at) as (λ _. is_earlier s (l + 1) (get_or xs k d) ≡ true) [
        | inl same ↦
            let f = found s l xs at x is in
            subst (λ n. is_earlier s (l + 1) (get_or xs n d) ≡ true) (sym same)
            (subst (λ y. is_earlier s (l + 1) y ≡ true) (sym (f.1 d)) (there_before s l x f.2))
        | inr other ↦ before k d (omega (arith, lt, other))
      ]

  module _ (p : Place) (w : Weights) where
    pub still_none : (at : ℕ) (x : Extra) → extra_there s l (slice_get xs at) ≡ Some x →
        eqb (number x.place) (number p) ≡ false
        → ((k : ℕ) (d : Extra) → k < at → is_extra_at s l p (get_or xs k d) ≡ false) →
        (k : ℕ) (d : Extra) → k < at + 1 → is_extra_at s l p (get_or xs k d) ≡ false
    still_none at x is differs before k d lt =
        elim (cases_eq k at) as (λ _. is_extra_at s l p (get_or xs k d) ≡ false) [
          | inl same ↦
              let f = found s l xs at x is in
              subst (λ n. is_extra_at s l p (get_or xs n d) ≡ false) (sym same)
              (subst (λ y. is_extra_at s l p y ≡ false) (sym (f.1 d)) (other_place s l p x differs))
          | inr other ↦ before k d (omega (arith, lt, other))
        ]

    pub none_costs : (at : ℕ) → first_extra net s l ≤ at →
        ((k : ℕ) (d : Extra) → k < at → is_extra_at s l p (get_or xs k d) ≡ false)
        → extra_there s l (slice_get xs at) ≡ None → 0 ≡ extras_cost net w s l p
    none_costs at ge before none =
        sym (sum_none (is_extra_at s l p) (extra_cost net w) xs
        (λ k d lt. elim (cases_lt k at) as (λ _. is_extra_at s l p (get_or xs k d) ≡ false) [
          | inl less ↦ before k d less
          | inr past ↦ nowhere s l p (get_or xs k d)
              (none_there s l xs are.order at none
              (λ j e from in_. all_behind j e (omega (arith, ge, from)) in_) k d past lt)
        ]))

    pub one_costs : (at : ℕ) (x : Extra) → extra_there s l (slice_get xs at) ≡ Some x →
        eqb (number x.place) (number p) ≡ true → extra_cost net w x ≡ extras_cost net w s l p
    one_costs at x is same =
        let f = found s l xs at x is in
        sym (ap (extra_cost net w) (f.1 x))
        ∙ sym (sum_one (is_extra_at s l p) (extra_cost net w) ExtraBefore (apart_places s l p) xs
        are.order at x f.0
        (subst (λ y. is_extra_at s l p y ≡ true) (sym (f.1 x)) (meets_place s l p x f.2 same)))

-- for each strand there is a first extra
module _ (net : Net) (formed : IsFormed net) where
  pub extras_long : length net.index.extras ≡ length net.strands + 1
  extras_long = ap (λ (i : NetIndex). length i.extras) formed.index
      ∙ length-map-range_with_len (λ s. count_by (λ (x : Extra). nat_lt x.strand s) net.extras) 0
      (length net.strands + 1)

  pub extras_begin : (are : AreExtras net) (s : ℕ) → s < length net.strands →
      get_or net.index.extras s 0 ≡ first_extra net s (strand_at net s).first
  extras_begin are s lt =
      ap (λ (i : NetIndex). get_or i.extras s 0) formed.index
      ∙ get_or-map-range_with_len (λ s. count_by (λ (x : Extra). nat_lt x.strand s) net.extras) 0
      (length net.strands + 1) s s 0 (omega (arith, lt)) (omega arith)
      ∙ count-agree (λ (x : Extra). nat_lt x.strand s) (is_earlier s (strand_at net s).first)
      net.extras (λ k d in_.
      let x : Extra = get_or net.extras k d in
      same_test x.strand x.layer s (strand_at net s).first
      (λ same. subst (λ n. (strand_at net n).first ≤ x.layer) same (are.there k d in_).after))
    where
      same_test : (a b s l : ℕ) → (a ≡ s → l ≤ b) → nat_lt a s ≡
          (nat_lt a s || (eqb a s && nat_lt b l))
      same_test a b s l within =
          elim (cases_eq a s) as (λ _. nat_lt a s ≡ (nat_lt a s || (eqb a s && nat_lt b l))) [
            | inl same ↦ let le = within same in grind (arith, nat_tests)
            | inr other ↦ grind (arith, nat_tests)
          ]
