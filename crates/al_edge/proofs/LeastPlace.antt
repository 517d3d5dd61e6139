-- The place that costs least, place after place.
use Rattle.std.proofs.Common.{ℕ, zero, suc, ◌≡◌, ◌⊎◌, ◌+◌, ◌≤◌, ℤ, pos, negsuc, ◌<ℤ◌, ◌≤ℤ◌}
use Rattle.std.proofs.Common.{◌-ℤ◌, List, get_or, Option, Some}
use Rattle.std.proofs.Common.{None, refl, sym, ap, ◌∙◌, subst, arith, inl, inr}
use Rattle.std.proofs.lemmas.Bool.{cases_eq}
use Rattle.std.proofs.lemmas.Int.{ints}
use Rattle.pra_list.proofs.Options.{none_some, some_same}
use Rattle.pra_base.specs.declared.ids.Place.{Place}
use Rattle.pra_base.specs.Places.{number}
use Rattle.pra_base.proofs.PlaceNumbers.{number_below}
use Rattle.net_form.proofs.PlaceEquality.{number-injective}
use Rattle.al_edge.specs.declared.cheapest.Weighed.{Weighed}
use Rattle.al_edge.specs.Cheapest.{slot, IsCheapest, IsLesser, IsCheapestBelow, IsBestBelow}

less_or_same : (x y : ℤ) → x ≤ℤ y → (x <ℤ y) ⊎ (x ≡ y)
less_or_same x y le = by (y -ℤ x) refl
  where
    by : (d : ℤ) → d ≡ y -ℤ x → (x <ℤ y) ⊎ (x ≡ y)
    by (pos zero) is = inr (omega (arith, ints, is))
    by (pos (suc n)) is = inl (omega (arith, ints, is))
    by (negsuc n) is = absurd (omega (arith, ints, is, le))

pub not_some : (o : Option ℤ) → ((z : ℤ) → o ≡ Some z → ⊥) → o ≡ None
not_some None none = refl
not_some (Some z) none = absurd (none z refl)

module _ (weights : List (Option ℤ)) where
  pub none_below : IsBestBelow weights 0 None
  none_below q lt = absurd (omega (arith, lt))

  -- a place that has no weight
  pub none_here : (k : ℕ) (best : Option Weighed) → get_or weights k None ≡ None
      → IsBestBelow weights k best → IsBestBelow weights (k + 1) best
  none_here k None none all = λ q lt.
      elim (cases_eq (number q) k) as (λ _. slot weights q ≡ None) [
        | inl same ↦ ap (λ j. get_or weights j None) same ∙ none
        | inr other ↦ all q (omega (arith, lt, other))
      ]
  none_here k (Some best) none all = record {
    is = all.is;
    below = let lt = all.below in omega (arith, lt);
    first = λ q y lt some. elim (cases_eq (number q) k)
        as (λ _. (best.weight <ℤ y) ⊎ ((best.weight ≡ y) × (number best.place ≤ number q))) [
          | inl same ↦ absurd (none_some (sym none ∙ sym (ap (λ j. get_or weights j None) same)
              ∙ some))
          | inr other ↦ all.first q y (omega (arith, lt, other)) some
        ];
  }

  module _ (k : ℕ) (next : Weighed) (at : number next.place ≡ k)
      (some : slot weights next.place ≡ Some next.weight) where
    the_one : (q : Place) (y : ℤ) → number q ≡ k → slot weights q ≡ Some y → y ≡ next.weight
    the_one q y same has = some_same y next.weight (sym has
        ∙ ap (slot weights) (number-injective q next.place (same ∙ sym at)) ∙ some)

    -- a place that has one
    pub one_here : (best : Option Weighed) (result : Weighed) → IsLesser best next result
        → IsBestBelow weights k best → IsCheapestBelow weights (k + 1) result
    one_here None result is all = subst (IsCheapestBelow weights (k + 1)) (sym is) (record {
      is = some;
      below = omega (arith, at);
      first = λ q y lt has. elim (cases_eq (number q) k)
          as (λ _. (next.weight <ℤ y) ⊎ ((next.weight ≡ y) × (number next.place ≤ number q))) [
            | inl same ↦ inr (sym (the_one q y same has), omega (arith, same, at))
            | inr other ↦ absurd (none_some (sym (all q (omega (arith, lt, other))) ∙ has))
          ];
    })
    one_here (Some best) result (inl less) all =
        subst (IsCheapestBelow weights (k + 1)) (sym less.1) (record {
          is = some;
          below = omega (arith, at);
          first = λ q y lt has. elim (cases_eq (number q) k)
              as (λ _. (next.weight <ℤ y) ⊎ ((next.weight ≡ y) × (number next.place ≤ number q))) [
                | inl same ↦ inr (sym (the_one q y same has), omega (arith, same, at))
                | inr other ↦ inl (by q y less.0
                    (all.first q y (omega (arith, lt, other)) has))
              ];
        })
      where
        by : (q : Place) (y : ℤ) → next.weight <ℤ best.weight → (best.weight <ℤ y)
            ⊎ ((best.weight ≡ y) × (number best.place ≤ number q)) → next.weight <ℤ y
        by q y less (inl more) = omega (arith, ints, less, more)
        by q y less (inr same) = let e = same.0 in omega (arith, ints, less, e)
    one_here (Some best) result (inr most) all =
        subst (IsCheapestBelow weights (k + 1)) (sym most.1) (record {
          is = all.is;
          below = let lt = all.below in omega (arith, lt);
          first = λ q y lt has. elim (cases_eq (number q) k)
              as (λ _. (best.weight <ℤ y) ⊎ ((best.weight ≡ y) × (number best.place ≤ number q))) [
                | inl same ↦ by q y most.0 (the_one q y same has)
                    (let lt = all.below in omega (arith, lt, same))
                | inr other ↦ all.first q y (omega (arith, lt, other)) has
              ];
        })
      where
        by : (q : Place) (y : ℤ) → best.weight ≤ℤ next.weight → y ≡ next.weight
            → number best.place ≤ number q
            → (best.weight <ℤ y) ⊎ ((best.weight ≡ y) × (number best.place ≤ number q))
        by q y le is order = elim (less_or_same best.weight y (omega (arith, ints, le, is)))
            as (λ _. (best.weight <ℤ y) ⊎ ((best.weight ≡ y) × (number best.place ≤ number q))) [
              | inl less ↦ inl less
              | inr same ↦ inr (same, order)
            ]

  pub of_all : (best : Weighed) → IsCheapestBelow weights 14 best → IsCheapest weights best.place
  of_all best all = record {
    weight = best.weight;
    is = all.is;
    first = λ q y has. all.first q y (number_below q) has;
  }
