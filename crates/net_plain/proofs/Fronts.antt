-- A path from its end: one place more at the front of what is left.
use Rattle.std.proofs.Common.{◌≡◌, ℕ, suc, ◌+◌, ◌-◌, ◌<◌, ℤ, List, ◌∷◌, length, get_or}
use Rattle.std.proofs.Common.{drop, drop-cons, add-one, Option, Some, None, sym, ap, ◌∙◌, subst}
use Rattle.std.proofs.Common.{arith, cond}
use Rattle.std.proofs.lemmas.Bool.{ne_eqb}
use Rattle.pra_base.specs.declared.ids.Place.{Place}
use Rattle.pra_base.specs.declared.ids.Place.TheVariants.{Eax}
use Rattle.net_cost.specs.declared.weights.Weights.{Weights}
use Rattle.net_form.specs.declared.net.Net.{Net}
use Rattle.net_form.specs.declared.prices.Prices.{Prices}
use Rattle.net_form.specs.declared.routes.Ends.{Ends}
use Rattle.net_form.specs.declared.taken.Taken.{Taken}
use Rattle.net_plain.specs.Rests.{IsCostOf, place_before}
use Rattle.net_plain.proofs.LeastRests.{onward, cost_more}

module _ (net : Net) (w : Weights) (prices : Prices) (ends : Ends) (taken : Taken) (s : ℕ)
    (path : List Place) (first : ℕ) where
  -- what the places from number k on cost
  abbrev pub IsCostFrom : ℕ → Option ℤ → Type 0
  IsCostFrom k o = IsCostOf net w prices ends taken s (first + k) (place_before path k)
      (drop k path) o

  pub one_before : (k : ℕ) (q : Place) (o : Option ℤ) → k < length path → q ≡ get_or path k Eax
      → IsCostFrom (k + 1) o
      → IsCostFrom k (onward net w prices ends taken s (first + k) (place_before path k) q o)
  one_before k q o lt is cost =
      let layer : first + (k + 1) ≡ suc (first + k) = omega arith in
      let left = subst (λ (l : ℕ). IsCostOf net w prices ends taken s l (place_before path (k + 1))
      (drop (k + 1) path) o) layer cost in
      let behind = subst (λ (p : Option Place).
      IsCostOf net w prices ends taken s (suc (first + k)) p (drop (k + 1) path) o) after left in
      subst (λ (qs : List Place). IsCostOf net w prices ends taken s (first + k)
      (place_before path k) qs
      (onward net w prices ends taken s (first + k) (place_before path k) q o))
      (sym (drop-cons path k Eax lt ∙ (λ i. sym is i ∷ drop (sym (add-one k) i) path)))
      (cost_more net w prices ends taken s (first + k) (place_before path k) q (drop (k + 1) path) o
      behind)
    where
      after : place_before path (k + 1) ≡ Some q
      after =
          let number : (k + 1) - 1 ≡ k = omega arith in
          (λ i. cond (ne_eqb (k + 1) 0 (λ e. absurd (omega arith)) i) None
          (Some (get_or path (number i) Eax))) ∙ ap Some (sym is)
