-- What it costs to leave a place is what the way costs.
use Rattle.std.proofs.Common.{ℕ, ◌≡◌, ◌<◌, ◌∙◌, Bool, true, false, ◌&&◌, not, cond, eqb, ℤ, pos}
use Rattle.std.proofs.Common.{◌+ℤ◌}
use Rattle.std.proofs.Common.{List, refl, ap, subst, arith}
use Rattle.std.proofs.lemmas.Int.{ints}
use Rattle.std.proofs.lemmas.Bool.{ne_eqb}
use Rattle.std.proofs.lemmas.Bool.Decides.{nat_tests}
use Rattle.pra_base.specs.Places.{number, has_register, register_of, needs_slot}
use Rattle.pra_base.proofs.PlaceNumbers.{number_below}
use Rattle.net_path.specs.declared.crossbar.Ways.{Ways}
use Rattle.net_path.specs.declared.path.Choice.{Choice}
use Rattle.net_path.specs.declared.path.Leaving.{Leaving}
use Rattle.net_path.specs.Choices.{IsBestChoice}
use Rattle.net_path.specs.Leaving.{IsLeaving, into_register, into_memory, leaving_price}
use Rattle.net_path.specs.Ways.{at, bring_price, step_price}

turned : (a b : ℕ) → eqb a b ≡ eqb b a
turned a b = grind (arith, nat_tests)

module _ (ways : Ways) (p q : ℕ) (lt : q < 14) (leaving : Leaving)
    (is : IsLeaving ways p leaving) where
  small : has_register q ≡ true → register_of q < 6
  small h = grind (arith, nat_tests)

  first : (hq hp : Bool) → has_register q ≡ hq → has_register p ≡ hp
      → cond hq (cond (eqb (register_of q) leaving.own) (pos 0) leaving.bring) (pos 0)
      ≡ cond hq (cond hp (cond (eqb (register_of p) (register_of q)) (pos 0) ways.between)
      (cond (needs_slot p) ways.load ways.set)) (pos 0)
  first false hp eq ep = refl
  first true true eq ep =
      let own : leaving.own ≡ register_of p =
      is.own ∙ ap (λ (b : Bool). cond b (register_of p) 6) ep in
      let bring : leaving.bring ≡ ways.between = is.bring
      ∙ ap (λ (b : Bool). cond b ways.between (cond (needs_slot p) ways.load ways.set)) ep in
      rw (own, bring) (ap (λ (b : Bool). cond b (pos 0) ways.between)
      (turned (register_of q) (register_of p)))
  first true false eq ep =
      let own : leaving.own ≡ 6 = is.own ∙ ap (λ (b : Bool). cond b (register_of p) 6) ep in
      let bring : leaving.bring ≡ cond (needs_slot p) ways.load ways.set = is.bring
      ∙ ap (λ (b : Bool). cond b ways.between (cond (needs_slot p) ways.load ways.set)) ep in
      let none : eqb (register_of q) 6 ≡ false =
      ne_eqb (register_of q) 6 (λ e. let s = small eq in absurd (omega (arith, s, e))) in
      rw (own, bring, none) refl

  second : (sq sp : Bool)
      → cond sq (cond sp (pos 0) ways.store) (pos 0) ≡ cond (sq && not sp) ways.store (pos 0)
  second true true = refl
  second true false = refl
  second false sp = refl

  pub leaves : leaving_price leaving q ≡ step_price ways p q
  leaves =
      let a : into_register leaving q ≡ cond (has_register q) (bring_price ways p q) (pos 0) =
      first (has_register q) (has_register p) refl refl in
      let b : into_memory leaving q
      ≡ cond (needs_slot q && not (needs_slot p)) ways.store (pos 0) =
      ap (λ (z : ℤ). cond (needs_slot q) z (pos 0)) is.store
      ∙ second (needs_slot q) (needs_slot p) in
      omega (arith, ints, a, b)

-- the best by one way is the best by the other
pub best_leaving : (ways : Ways) (p : ℕ) (leaving : Leaving) → IsLeaving ways p leaving
    → (costs : List ℤ) (choice : Choice) → IsBestChoice (leaving_price leaving) costs 14 choice
    → IsBestChoice (step_price ways p) costs 14 choice
best_leaving ways p leaving is costs choice best = record {
  is = subst (λ (z : ℤ). choice.debt.cost ≡ z +ℤ at costs (number choice.place))
      (leaves ways p (number choice.place) (number_below choice.place) leaving is) best.is;
  below = λ k lt. let b = best.below k lt in let same = leaves ways p k lt leaving is in
      omega (arith, ints, b, same);
}
