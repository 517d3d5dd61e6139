-- To stay, in the register alone or in its both place, beside going elsewhere.
use Rattle.std.proofs.Common.{ℕ, ◌≡◌, ◌⊎◌, ◌<◌, ◌+◌, ℤ, ◌+ℤ◌, ◌≤ℤ◌, List, subst, sym, arith, inl}
use Rattle.std.proofs.Common.{inr, pos, ◌∙◌}
use Rattle.std.proofs.lemmas.Int.{ints}
use Rattle.std.proofs.lemmas.Bool.{cases_eq}
use Rattle.net_path.specs.declared.crossbar.Steps.{Steps}
use Rattle.net_path.specs.Ways.{at, step_by, IsLeastWay, IsLeastElsewhere, IsMet}
use Rattle.net_path.proofs.Steps.{moved_same, alone_alone, alone_both, both_alone, both_both}

module _ (way : ℕ → ℤ) (r : ℕ) (costs : List ℤ) where
  below : (e s z : ℤ) → IsLeastElsewhere way r costs e → z ≤ℤ e → z ≤ℤ s
      → s ≤ℤ (way r +ℤ at costs r) → s ≤ℤ (way (8 + r) +ℤ at costs (8 + r))
      → (q : ℕ) → q < 14 → z ≤ℤ (way q +ℤ at costs q)
  below e s z else ze zs alone both q lt =
      elim (cases_eq q r) as (λ _. z ≤ℤ (way q +ℤ at costs q)) [
        | inl is ↦ rw is (omega (arith, ints))
        | inr apart ↦ elim (cases_eq q (8 + r)) as (λ _. z ≤ℤ (way q +ℤ at costs q)) [
          | inl is ↦ rw is (omega (arith, ints))
          | inr other ↦ let b = else.below q lt apart other in omega (arith, ints)
        ]
      ]

  pub least_with_stay : (e s z : ℤ) → IsLeastElsewhere way r costs e → z ≤ℤ e → z ≤ℤ s
      → (z ≡ e) ⊎ (z ≡ s) → s ≤ℤ (way r +ℤ at costs r) → s ≤ℤ (way (8 + r) +ℤ at costs (8 + r))
      → IsMet way costs s → IsLeastWay way costs z
  least_with_stay e s z else ze zs met alone both stays = record {
    below = below e s z else ze zs alone both;
    met = elim met as (λ _. IsMet way costs z) [
      | inl is ↦ subst (λ (x : ℤ). IsMet way costs x) (sym is) else.met
      | inr is ↦ subst (λ (x : ℤ). IsMet way costs x) (sym is) stays
    ];
  }

module _ (steps : Steps) (r : ℕ) (lr : r < 6) (costs : List ℤ) (kept s z e : ℤ) where
  -- from the register alone
  pub stays_alone : (stored : ℤ) → kept ≡ at costs r → stored ≡ steps.kept +ℤ at costs (8 + r)
      → s ≤ℤ kept → s ≤ℤ stored → (s ≡ kept) ⊎ (s ≡ stored)
      → IsLeastElsewhere (step_by steps r) r costs e → z ≤ℤ e → z ≤ℤ s → (z ≡ e) ⊎ (z ≡ s)
      → IsLeastWay (step_by steps r) costs z
  stays_alone stored is_kept is_stored sk ss met else ze zs zmet =
      let a = alone_alone steps r r lr lr
      ∙ moved_same r (pos 0 +ℤ pos 0) steps.alone.alone in
      let b = alone_both steps r r lr lr ∙ moved_same r (steps.kept +ℤ pos 0) steps.alone.both in
      least_with_stay (step_by steps r) r costs e s z else ze zs zmet
      (omega (arith, ints, a)) (omega (arith, ints, b))
      (elim met as (λ _. IsMet (step_by steps r) costs s) [
        | inl is ↦ record { place = r; within = omega arith; met = omega (arith, ints, a) }
        | inr is ↦ record { place = 8 + r; within = omega arith; met = omega (arith, ints, b) }
      ])

  -- from its both place
  pub stays_in_both : (left : ℤ) → kept ≡ at costs (8 + r) → left ≡ steps.left +ℤ at costs r
      → s ≤ℤ kept → s ≤ℤ left → (s ≡ kept) ⊎ (s ≡ left)
      → IsLeastElsewhere (step_by steps (8 + r)) r costs e
      → z ≤ℤ e → z ≤ℤ s → (z ≡ e) ⊎ (z ≡ s) → IsLeastWay (step_by steps (8 + r)) costs z
  stays_in_both left is_kept is_left sk sl met else ze zs zmet =
      let a = both_alone steps r r lr ∙ moved_same r (pos 0 +ℤ steps.left) steps.both.alone in
      let b = both_both steps r r ∙ moved_same r (pos 0 +ℤ pos 0) steps.both.both in
      least_with_stay (step_by steps (8 + r)) r costs e s z else ze zs zmet
      (omega (arith, ints, a)) (omega (arith, ints, b))
      (elim met as (λ _. IsMet (step_by steps (8 + r)) costs s) [
        | inl is ↦ record { place = 8 + r; within = omega arith; met = omega (arith, ints, b) }
        | inr is ↦ record { place = r; within = omega arith; met = omega (arith, ints, a) }
      ])
