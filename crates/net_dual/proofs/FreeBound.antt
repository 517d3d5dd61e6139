-- The value at prices of nothing is the least cost of strands alone, in units of a price.
use Rattle.std.proofs.Common.{ℕ, ◌+◌, ◌*◌, ◌≡◌, ◌↔◌, Bool, true, false, ℤ, pos, List, length}
use Rattle.std.proofs.Common.{get_or}
use Rattle.std.proofs.Common.{replicate, sum_by, Option, Some, None, refl, ap, ◌∙◌, arith, inl, inr}
use Rattle.std.specs.List.{range_with_len, enumerate_from}
use Rattle.std.proofs.lemmas.Int.{ints}
use Rattle.std.proofs.lemmas.Bool.{cases_lt}
use Rattle.std.proofs.lemmas.List.{get_or-replicate, get_or_past, length-replicate}
use Rattle.std.proofs.lemmas.List.Folds.{sum_by-replicate}
use Rattle.pra_base.specs.declared.ids.Place.{Place}
use Rattle.net_cost.specs.declared.weights.Weights.{Weights}
use Rattle.net_form.specs.declared.net.Net.{Net}
use Rattle.net_form.specs.declared.routes.Routes.{Routes}
use Rattle.net_form.specs.Flow.{Edge}
use Rattle.net_form.specs.Admitted.{uses_memory}
use Rattle.net_form.specs.Rooms.{layer_total, zero_prices}
use Rattle.net_form.specs.Bundles.{bundle_of}
use Rattle.net_dual.specs.Priced.{total, pay, in_any_register, exits, enters, tie_slot}
use Rattle.net_dual.specs.Priced.{number_at_slot, cap_part, mem_part, exit_part, entry_part, priced}
use Rattle.net_dual.specs.Priced.{cost_by_weights}
use Rattle.net_dual.specs.Paths.{path_edges, path_price, path_in, AreLeast}
use Rattle.net_dual.specs.Value.{routes_price, all_paid, IsLagrange, IsFreeBound}
use Rattle.net_dual.proofs.Totals.{total-agree, total-nothing, total-pos, total-scale}

replicated : {X : Type 0} (n k : ℕ) (x : X) → get_or (replicate n x) k x ≡ x
replicated n k x = elim (cases_lt k n) as (λ _. get_or (replicate n x) k x ≡ x) [
  | inl lt ↦ get_or-replicate n k x x lt
  | inr le ↦ get_or_past (replicate n x) k x
      (let long = length-replicate n x in omega (arith, long, le))
]

pay-nothing : (b : Bool) (z : ℤ) → z ≡ pos 0 → pay b z ≡ pos 0
pay-nothing true z h = h
pay-nothing false z h = refl

total-none : {X : Type 0} (f : X → ℤ) (xs : List X) → ((x : X) → f x ≡ pos 0) → total f xs ≡ pos 0
total-none f xs none = total-agree f (λ x. pos 0) xs (λ k d lt. none (get_or xs k d))
    ∙ total-nothing xs

module _ (net : Net) where
  slot_free : (i : ℕ) (o : Option ℕ) → number_at_slot (zero_prices net).ties i o ≡ pos 0
  slot_free i None = refl
  slot_free i (Some j) = replicated (13 * length net.ties) (13 * i + j) (pos 0)

  module _ (cost : Edge → ℕ) where
    free_price : (e : Edge) → priced net cost (zero_prices net) e ≡ pos (1024 * cost e)
    free_price e =
        let cap : cap_part net (zero_prices net) e ≡ pos 0
        = pay-nothing (in_any_register e) _
        (ap pos (replicated (6 * layer_total net.blocks) (bundle_of net e) 0)) in
        let mem : mem_part net (zero_prices net) e ≡ pos 0
        = total-none _ (enumerate_from 0 net.pairs)
        (λ m. pay-nothing (uses_memory m.1 e) _ (ap pos (replicated (length net.pairs) m.0 0)))
        in
        let out : exit_part net (zero_prices net) e ≡ pos 0
        = total-none _ (enumerate_from 0 net.ties)
        (λ t. pay-nothing (exits net t.1 e) _ (slot_free t.0 (tie_slot e.to))) in
        let in_ : entry_part net (zero_prices net) e ≡ pos 0
        = total-none _ (enumerate_from 0 net.ties)
        (λ t. pay-nothing (enters net t.1 e) _ (slot_free t.0 (tie_slot e.to))) in
        omega (arith, ints, cap, mem, out, in_)

    -- the cost of a path of strand s
    abbrev path_cost : ℕ → List Place → ℕ
    path_cost s ps = sum_by cost (path_edges net s ps)

    pub free_path : (s : ℕ) (ps : List Place)
        → path_price net (priced net cost (zero_prices net)) s ps ≡ pos (1024 * path_cost s ps)
    free_path s ps = total-agree (priced net cost (zero_prices net)) (λ e. pos (1024 * cost e))
        (path_edges net s ps)
        (λ k d lt. free_price (get_or (path_edges net s ps) k d))
        ∙ total-scale cost (path_edges net s ps)

    pub cost_path : (s : ℕ) (ps : List Place)
        → path_price net (λ e. pos (cost e)) s ps ≡ pos (path_cost s ps)
    cost_path s ps = total-pos cost (path_edges net s ps)

    to_priced : (family : Routes) → AreLeast net (λ e. pos (cost e)) family
        → AreLeast net (priced net cost (zero_prices net)) family
    to_priced family least = record {
      many = least.many;
      each = λ s lt. record {
        goes = (least.each s lt).goes;
        least = λ qs goes.
            let le = (least.each s lt).least qs goes in
            let a = free_path s (path_in family s) in
            let b = free_path s qs in
            let c = cost_path s (path_in family s) in
            let d = cost_path s qs in
            omega (arith, ints, le, a, b, c, d);
      };
    }

    of_priced : (family : Routes) → AreLeast net (priced net cost (zero_prices net)) family
        → AreLeast net (λ e. pos (cost e)) family
    of_priced family least = record {
      many = least.many;
      each = λ s lt. record {
        goes = (least.each s lt).goes;
        least = λ qs goes.
            let le = (least.each s lt).least qs goes in
            let a = free_path s (path_in family s) in
            let b = free_path s qs in
            let c = cost_path s (path_in family s) in
            let d = cost_path s qs in
            omega (arith, ints, le, a, b, c, d);
      };
    }

    abbrev numbers : List ℕ
    numbers = range_with_len 0 (length net.strands)

    free_routes : (family : Routes)
        → routes_price net (priced net cost (zero_prices net)) family ≡ pos
        (1024 * sum_by (λ s. path_cost s (path_in family s)) numbers)
    free_routes family = total-agree _ (λ s. pos (1024 * path_cost s (path_in family s))) numbers
        (λ k d lt. free_path (get_or numbers k d) (path_in family (get_or numbers k d)))
        ∙ total-scale (λ s. path_cost s (path_in family s)) numbers

    cost_routes : (family : Routes)
        → routes_price net (λ e. pos (cost e)) family ≡ pos
        (sum_by (λ s. path_cost s (path_in family s)) numbers)
    cost_routes family = total-agree _ (λ s. pos (path_cost s (path_in family s))) numbers
        (λ k d lt. cost_path (get_or numbers k d) (path_in family (get_or numbers k d)))
        ∙ total-pos (λ s. path_cost s (path_in family s)) numbers

  nothing_paid : all_paid (zero_prices net) ≡ 0
  nothing_paid =
      let caps = sum_by-replicate (λ (x : ℕ). x) (6 * layer_total net.blocks) 0 in
      let mems = sum_by-replicate (λ (x : ℕ). x) (length net.pairs) 0 in
      omega (arith, caps, mems)

  pub free_bound : (w : Weights) (b : ℕ)
      → IsFreeBound net w b ↔ IsLagrange net w (zero_prices net) (pos (1024 * b))
  free_bound w b = (
    λ f.
        let cost = cost_by_weights net w in
        let priced = free_routes cost f.family in
        let plain = cost_routes cost f.family in
        let paid = nothing_paid in
        let is = f.is in
        record {
          family = f.family;
          value = record {
            least = to_priced cost f.family f.least;
            is =
                omega (arith, ints, priced, plain, paid, is);
          };
        },
    λ l.
        let cost = cost_by_weights net w in
        let priced = free_routes cost l.family in
        let plain = cost_routes cost l.family in
        let paid = nothing_paid in
        let is = l.value.is in
        record {
          family = l.family;
          least = of_priced cost l.family l.value.least;
          is =
              omega (arith, ints, priced, plain, paid, is);
        },
  )
