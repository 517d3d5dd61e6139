-- Sums over the strands of a group, end by end, and the place that costs least.
use Rattle.std.proofs.Common.{ℕ, ◌≡◌, ◌<◌, Bool, true, false, not, ◌||◌, cond, eqb, ℤ}
use Rattle.std.proofs.Common.{pos, ◌+ℤ◌, List, [], ◌∷◌, ◌++◌, length, Option, Some}
use Rattle.std.proofs.Common.{None, refl, sym, ap, ◌∙◌, subst, arith, inl, inr}
use Rattle.std.specs.Prelude.{IsSome}
use Rattle.std.proofs.lemmas.Bool.{cases_Bool, cases_eq, eq-eqb, ne_eqb, false≢true}
use Rattle.std.proofs.lemmas.Int.{ints}
use Rattle.std.proofs.lemmas.List.Elements.{All-nil, All-push}
use Rattle.std.proofs.lemmas.List.Elements.{All-weaker}
use Rattle.pra_list.proofs.Options.{none_some, some_same}
use Rattle.pra_base.specs.declared.ids.Place.{Place}
use Rattle.pra_base.proofs.PlaceNumbers.{number_below}
use Rattle.net_cost.specs.declared.weights.Weights.{Weights}
use Rattle.net_form.specs.declared.net.Net.{Net}
use Rattle.net_form.specs.declared.net.TieEnd.{TieEnd}
use Rattle.net_form.specs.declared.prices.Prices.{Prices}
use Rattle.net_form.specs.Admitted.{strand_at}
use Rattle.net_dual.specs.Priced.{pay}
use Rattle.net_dual.proofs.Totals.{total-append, total-agree}
use Rattle.al_laws.specs.Greedy.{is_group, has_end, Outranks}
use Rattle.al_edge.specs.GroupEnds.{ends_of, counts}
use Rattle.al_edge.specs.OpenPlaces.{suits_all}
use Rattle.al_edge.specs.Cheapest.{slot, IsCheapest}
use Rattle.al_edge.specs.Weighed.{IsCostAt, IsSumAt, IsWeight, group_sum, IsSlot, AreWeights}
use Rattle.al_edge.specs.Weighed.{IsLightest}
use Rattle.al_edge.proofs.GroupMembers.{each_end, sums_agree}

module _ (net : Net) (w : Weights) (prices : Prices) (g : ℕ) (p : Place) where
  abbrev Costs : ℕ → ℤ → Type 0
  Costs s z = IsCostAt net w prices g p s z

  -- there is one least cost
  one_cost : (s : ℕ) (y z : ℤ) → Costs s y → Costs s z → y ≡ z
  one_cost s y z one two =
      let a = one.is_least.least two.way two.is_least.goes in
      let b = two.is_least.least one.way one.is_least.goes in
      let left = one.is in
      let right = two.is in
      omega (arith, ints, a, b, left, right)

  pub nothing_yet : IsSumAt net w prices g p [] (pos 0)
  nothing_yet = record { cost = λ _. pos 0; least = All-nil _; sum = refl }

  abbrev Least : (ℕ → ℤ) → TieEnd → Type 0
  Least cost e = counts net g e ≡ true → Costs e.strand (cost e.strand)

  abbrev paid : (ℕ → ℤ) → TieEnd → ℤ
  paid cost e = pay (counts net g e) (cost e.strand)

  module _ (es : List TieEnd) (z : ℤ) (is : IsSumAt net w prices g p es z) (e : TieEnd) where
    pub not_counted : counts net g e ≡ false → IsSumAt net w prices g p (es ++ e ∷ []) z
    not_counted none = record {
      cost = is.cost;
      least = All-push (Least is.cost) es e is.least
          (λ yes_. absurd (false≢true (sym none ∙ yes_)));
      sum =
          let both = total-append (paid is.cost) es (e ∷ []) in
          let nothing = ap (λ b. pay b (is.cost e.strand)) none in
          let old = is.sum in
          omega (arith, ints, both, nothing, old);
    }

    module _ (c : ℤ) (costs : Costs e.strand c) where
      with_it : ℕ → ℤ
      with_it s = cond (eqb s e.strand) c (is.cost s)

      at_it : (s : ℕ) → s ≡ e.strand → with_it s ≡ c
      unfolding with_it
      at_it s same = ap (λ b. cond b c (is.cost s)) (eq-eqb s e.strand same)

      at_other : (s : ℕ) → (s ≡ e.strand → ⊥) → with_it s ≡ is.cost s
      unfolding with_it
      at_other s other = ap (λ b. cond b c (is.cost s)) (ne_eqb s e.strand other)

      still : (d : TieEnd) → Least is.cost d → Least with_it d
      still d least yes_ = elim (cases_eq d.strand e.strand)
          as (λ _. Costs d.strand (with_it d.strand)) [
            | inl same ↦ subst (Costs d.strand) (sym (at_it d.strand same))
                (subst (λ s. Costs s c) (sym same) costs)
            | inr other ↦ subst (Costs d.strand) (sym (at_other d.strand other)) (least yes_)
          ]

      unchanged : (d : TieEnd) → Least is.cost d → paid is.cost d ≡ paid with_it d
      unchanged d least = elim (cases_Bool (counts net g d))
          as (λ _. paid is.cost d ≡ paid with_it d) [
            | inl yes_ ↦ ap (pay (counts net g d)) (elim (cases_eq d.strand e.strand)
                as (λ _. is.cost d.strand ≡ with_it d.strand) [
                  | inl same ↦ one_cost d.strand (is.cost d.strand) c (least yes_)
                      (subst (λ s. Costs s c) (sym same) costs) ∙ sym (at_it d.strand same)
                  | inr other ↦ sym (at_other d.strand other)
                ])
            | inr none ↦ ap (λ b. pay b (is.cost d.strand)) none
                ∙ sym (ap (λ b. pay b (with_it d.strand)) none)
          ]

      pub counted : counts net g e ≡ true
          → IsSumAt net w prices g p (es ++ e ∷ []) (z +ℤ c)
      counted yes_ = record {
        cost = with_it;
        least = All-push (Least with_it) es e
            (All-weaker (Least is.cost) (Least with_it) still es is.least)
            (λ _. subst (Costs e.strand) (sym (at_it e.strand refl)) costs);
        sum =
            let both = total-append (paid with_it) es (e ∷ []) in
            let here = ap (λ b. pay b (with_it e.strand)) yes_ in
            let cost = at_it e.strand refl in
            let same = total-agree (paid is.cost) (paid with_it) es
            (All-weaker (Least is.cost) (λ d. paid is.cost d ≡ paid with_it d) unchanged es
            is.least) in
            let old = is.sum in
            omega (arith, ints, both, here, cost, same, old);
      }

  -- the sum over all ends of the group
  pub all_counted : (z : ℤ) → IsSumAt net w prices g p (ends_of net g) z
      → IsWeight net w prices g p z
  all_counted z is = record {
    cost = is.cost;
    least = λ s lt has.
        let both = each_end net g (Least is.cost) is.least s lt in
        by (is_group g (strand_at net s).entry_group) (is_group g (strand_at net s).exit_group)
        (Costs s (is.cost s)) has (λ yes_. both.0 yes_ refl)
        (λ none yes_. both.1 yes_ (ap not none));
    sum = sym (sums_agree net g is.cost) ∙ is.sum;
  }
    where
      by : (a b : Bool) (P : Type 0) → (a || b) ≡ true → (a ≡ true → P)
          → (a ≡ false → b ≡ true → P) → P
      by true b P has entry exit = entry refl
      by false b P has entry exit = exit refl has

-- ---- the best of all places

module _ (net : Net) (w : Weights) (prices : Prices) (regs : List ℕ) (g : ℕ)
    (weights : List (Option ℤ)) (are : AreWeights net w prices regs g 14 weights) (p : Place)
    (cheap : IsCheapest weights p) where
  abbrev Slot : Place → Option ℤ → Type 0
  Slot q o = IsSlot net w prices regs g q o

  cost_of : (q : Place) (o : Option ℤ) → Slot q o → ℕ → ℤ
  cost_of q None h s = pos 0
  cost_of q (Some z) h s = h.1.cost s

  cost_is : (q : Place) (o : Option ℤ) (h : Slot q o) → suits_all net regs g q ≡ true → (s : ℕ)
      → s < length net.strands → has_end net g s ≡ true
      → IsCostAt net w prices g q s (cost_of q o h s)
  unfolding cost_of
  cost_is q None h opened = absurd (false≢true (sym h ∙ opened))
  cost_is q (Some z) h opened = h.1.least

  sum_is : (q : Place) (o : Option ℤ) (h : Slot q o) (z : ℤ) → o ≡ Some z
      → group_sum net g (cost_of q o h) ≡ z
  unfolding cost_of
  sum_is q None h z e = absurd (none_some e)
  sum_is q (Some y) h z e = h.1.sum ∙ some_same y z e

  opened_of : (q : Place) (o : Option ℤ) (z : ℤ) → Slot q o → o ≡ Some z
      → suits_all net regs g q ≡ true
  opened_of q None z h e = absurd (none_some e)
  opened_of q (Some y) z h e = h.0

  some_of : (q : Place) (o : Option ℤ) → Slot q o → suits_all net regs g q ≡ true
      → (z : ℤ) × (o ≡ Some z)
  some_of q None h opened = absurd (false≢true (sym h ∙ opened))
  some_of q (Some z) h opened = (z, refl)

  here : (q : Place) → Slot q (slot weights q)
  here q = are.each q (number_below q)

  least : Place → ℕ → ℤ
  least q s = cost_of q (slot weights q) (here q) s

  pub best : IsLightest net w prices (suits_all net regs g) g p
  unfolding least
  best = record {
    least = least;
    costs = λ q s opened lt has. cost_is q (slot weights q) (here q) opened s lt has;
    opened = opened_of p (slot weights p) cheap.weight (here p) cheap.is;
    first = λ q opened.
        let some = some_of q (slot weights q) (here q) opened in
        let mine = sum_is p (slot weights p) (here p) cheap.weight cheap.is in
        let other = sum_is q (slot weights q) (here q) some.0 some.1 in
        elim (cheap.first q some.0 some.1)
        as (λ _. Outranks (λ q. group_sum net g (least q)) p q) [
          | inl less ↦ inl (omega (arith, ints, less, mine, other))
          | inr same ↦ inr (mine ∙ same.0 ∙ sym other, same.1)
        ];
  }

-- a place that passes the test has a weight
pub some_weight : (net : Net) (w : Weights) (prices : Prices) (regs : List ℕ) (g : ℕ) (p : Place)
    (o : Option ℤ) → IsSlot net w prices regs g p o → suits_all net regs g p ≡ true → IsSome o
some_weight net w prices regs g p None none opened = absurd (false≢true (sym none ∙ opened))
some_weight net w prices regs g p (Some z) is opened = refl
