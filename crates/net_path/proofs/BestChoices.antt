-- One more place to choose from.
use Rattle.std.proofs.Common.{ℕ, ◌≡◌, ◌⊎◌, ◌+◌, ℤ, ◌+ℤ◌, ◌≤ℤ◌, List, sym, subst, arith, inl, inr}
use Rattle.std.proofs.lemmas.Int.{ints}
use borrow.Author.Count.{below_more}
use Rattle.pra_base.specs.declared.ids.Place.{Place}
use Rattle.pra_base.specs.Places.{number}
use Rattle.net_path.specs.declared.path.Choice.{Choice}
use Rattle.net_path.specs.Ways.{at}
use Rattle.net_path.specs.Choices.{IsChoice, IsBestChoice}

module _ (way : ℕ → ℤ) (costs : List ℤ) where
  cost_of : (to : Place) (c : Choice) → IsChoice way costs to c
      → c.debt.cost ≡ way (number c.place) +ℤ at costs (number c.place)
  cost_of to c is = subst (λ (p : Place). c.debt.cost ≡ way (number p) +ℤ at costs (number p))
      (sym is.place) is.is

  pub best_of_none : (to : Place) (c : Choice) → IsChoice way costs to c
      → IsBestChoice way costs 0 c
  best_of_none to c is = record { is = cost_of to c is; below = λ k lt. absurd (omega arith) }

  pub best_more : (n : ℕ) (to : Place) (one other z : Choice) → IsBestChoice way costs n one
      → number to ≡ n → IsChoice way costs to other → z.debt.cost ≤ℤ one.debt.cost
      → z.debt.cost ≤ℤ other.debt.cost → (z ≡ one) ⊎ (z ≡ other) → IsBestChoice way costs (n + 1) z
  best_more n to one other z best here is le_one le_other met = record {
    is = elim met as (λ _. z.debt.cost ≡ way (number z.place) +ℤ at costs (number z.place)) [
      | inl e ↦ subst (λ (c : Choice). c.debt.cost
          ≡ way (number c.place) +ℤ at costs (number c.place)) (sym e) best.is
      | inr e ↦ subst (λ (c : Choice). c.debt.cost
          ≡ way (number c.place) +ℤ at costs (number c.place)) (sym e) (cost_of to other is)
    ];
    below = below_more (λ k. z.debt.cost ≤ℤ (way k +ℤ at costs k)) n
        (λ k lt. let b = best.below k lt in omega (arith, ints))
        (subst (λ (k : ℕ). z.debt.cost ≤ℤ (way k +ℤ at costs k)) here
        (let e = is.is in omega (arith, ints)));
  }
