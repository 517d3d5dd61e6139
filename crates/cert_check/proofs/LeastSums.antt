-- A least path more, and the value that least paths give.
use Rattle.std.proofs.Common.{◌≡◌, ℕ, ◌+◌, ◌*◌, ◌<◌, ℤ, pos, ◌+ℤ◌, ◌-ℤ◌, ◌≤ℤ◌, []}
use Rattle.std.proofs.Common.{◌∷◌, ◌++◌, length, get_or, inl, inr, refl, sym, ap, ◌∙◌, subst, arith}
use Rattle.std.proofs.Common.{length-append, Bool, true, ◌↔◌}
use Rattle.std.specs.List.{range_with_len}
use Rattle.std.proofs.lemmas.Int.{ints}
use Rattle.std.proofs.lemmas.Bool.{cases_eq}
use Rattle.std.proofs.lemmas.List.{get_or_append_left}
use Rattle.std.proofs.Math.Seq.{get_or-append_seam}
use Rattle.pra_list.proofs.Comprehensions.{All-range}
use Rattle.pra_list.proofs.Growing.{last_range}
use Rattle.net_cost.specs.declared.weights.Weights.{Weights}
use Rattle.net_form.specs.declared.net.Net.{Net}
use Rattle.net_form.specs.declared.prices.Prices.{Prices}
use Rattle.net_form.specs.declared.routes.Routes.{Routes}
use Rattle.net_form.specs.Flow.{Edge}
use Rattle.net_dual.specs.Priced.{total, edge_price}
use Rattle.net_dual.specs.Paths.{path_price, IsLeast, IsLeastCost, Anywhere, any_ends, path_in}
use Rattle.net_dual.specs.Value.{IsLagrange, all_paid}
use Rattle.net_dual.proofs.Totals.{total-append, total-agree}
use Rattle.net_dual.proofs.Strands.{each_is_path}
use Rattle.cert_check.specs.Pass.{AreLeastCosts, HasPath}
use Rattle.cert_check.specs.Listed.{prices_of}
use Rattle.cert_check.specs.Reasons.{HasRoutes, HasBound}
use Rattle.cert_form.specs.declared.certificate.Cert.{Cert}
use Rattle.std.specs.Prelude.{IsTrue}
use Rattle.net_dual.proofs.Duality.{one_lagrange}

module _ (net : Net) (price : Edge → ℤ) where
  pub no_costs : AreLeastCosts net price 0 (pos 0)
  no_costs = record {
    family = [];
    many = refl;
    each = λ s lt. absurd (omega arith);
    is = refl;
  }

  pub costs_more : (n : ℕ) (z d : ℤ) → AreLeastCosts net price n z
      → IsLeastCost net price any_ends Anywhere n d → AreLeastCosts net price (n + 1) (z +ℤ d)
  costs_more n z d costs one =
      let family = costs.family ++ one.way ∷ [] in
      let many = costs.many in
      let front : (s : ℕ) → s < n → get_or family s [] ≡ get_or costs.family s []
      = λ s lt. get_or_append_left costs.family (one.way ∷ []) [] s (omega (arith, lt, many)) in
      let back : get_or family n [] ≡ one.way
      = ap (λ k. get_or family k []) (sym many) ∙ get_or-append_seam costs.family one.way [] [] in
      let f = λ (s : ℕ). path_price net price s (get_or family s []) in
      let g = λ (s : ℕ). path_price net price s (get_or costs.family s []) in
      let split : total f (range_with_len 0 (n + 1)) ≡ total f (range_with_len 0 n ++ (0 + n) ∷ [])
      = ap (total f) (last_range 0 n) in
      let sum = total-append f (range_with_len 0 n) ((0 + n) ∷ []) in
      let e : 0 + n ≡ n = omega arith in
      let here : f (0 + n) ≡ d = ap f e ∙ ap (path_price net price n) back ∙ one.is in
      let same : total f (range_with_len 0 n) ≡ total g (range_with_len 0 n)
      = total-agree f g (range_with_len 0 n)
      (All-range (λ s. f s ≡ g s) 0 n
      (λ s le lt. ap (path_price net price s) (front s (omega (arith, lt))))) in
      let two = length-append costs.family (one.way ∷ []) in
      record {
        family = family;
        many = omega arith;
        each = λ s lt. elim (cases_eq s n)
            as (λ _. IsLeast net price any_ends Anywhere s (get_or family s [])) [
              | inl is ↦ subst (λ s. IsLeast net price any_ends Anywhere s (get_or family s []))
                  (sym is) (subst (IsLeast net price any_ends Anywhere n) (sym back) one.is_least)
              | inr other ↦
                  let before : s < n = omega (arith, lt, other) in
                  subst (IsLeast net price any_ends Anywhere s) (sym (front s before))
                  (costs.each s before)
            ];
        is = omega (arith, ints, split, sum, here, same, costs.is);
      }

pub value_of_costs : (net : Net) (w : Weights) (prices : Prices) (z p : ℤ)
    → AreLeastCosts net (edge_price net w prices) (length net.strands) z
    → p ≡ pos (all_paid prices) → IsLagrange net w prices (z -ℤ p)
value_of_costs net w prices z p costs paid = record {
  family = record { places = costs.family };
  value = record {
    least = record { many = costs.many; each = costs.each };
    is = λ i. costs.is i -ℤ paid i;
  };
}

-- routes that are admitted are paths
pub some_path : (net : Net) (routes : Routes) → HasRoutes net routes → (s : ℕ)
    → s < length net.strands → HasPath net s
some_path net routes has s lt = record {
  path = path_in routes s;
  is_path = each_is_path net routes has.places has.admitted.masks has.admitted.across s lt;
}

-- the test of a bound that is not 0, where z is the value
pub bound_test : (w : Weights) (net : Net) (cert : Cert) (z : ℤ) (b : Bool)
    → (cert.bound ≡ 0 → ⊥) → IsLagrange net w (prices_of net cert) z
    → (IsTrue b ↔ ((pos (1024 * cert.bound) -ℤ pos 1023) ≤ℤ z)) → IsTrue b ↔ HasBound w net cert
bound_test w net cert z b some value test = (
  λ yes. inr (record { z = z; value = value; below = test.0 yes }),
  λ has. elim has as (λ _. IsTrue b) [
    | inl none ↦ absurd (some none)
    | inr carried ↦ test.1 (subst (λ y. (pos (1024 * cert.bound) -ℤ pos 1023) ≤ℤ y)
        (one_lagrange net w (prices_of net cert) carried.z z carried.value value) carried.below)
  ],
)

pub no_bound : (w : Weights) (net : Net) (cert : Cert) → cert.bound ≡ 0 →
    IsTrue true ↔ HasBound w net cert
no_bound w net cert none = (λ yes. inl none, λ has. refl)
