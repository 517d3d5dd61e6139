-- Prices are within their ranges: those of nothing, and all that steps make of them.
use Rattle.std.proofs.Common.{ℕ, zero, suc, ◌≡◌, ◌*◌, ◌≤◌, ℤ, pos, negsuc, ◌-ℤ◌, ◌≤ℤ◌, List, []}
use Rattle.std.proofs.Common.{◌∷◌, length, get_or}
use Rattle.std.proofs.Common.{slice_get, All, count_by, sum_by, Some, refl, sym, ap, ◌∙◌, subst}
use Rattle.std.proofs.Common.{arith}
use Rattle.std.specs.List.{flat_map, enumerate_from}
use Rattle.std.proofs.lemmas.Int.{ints}
use Rattle.std.proofs.lemmas.List.{length-replicate, length-map}
use Rattle.std.proofs.lemmas.List.Concat.{length-flat_map}
use Rattle.std.proofs.lemmas.List.Elements.{All-replicate, All-map}
use Rattle.std.proofs.lemmas.List.FromFn.{length-enumerate_from}
use Rattle.std.proofs.lemmas.List.Sums.{sum_by-cons}
use Rattle.std.proofs.lemmas.Option.{slice_get-get_or, slice_get_within}
use Rattle.std.proofs.Math.Path.{fun_ext}
use Rattle.pra_list.proofs.Comprehensions.{All-flat_map}
use Rattle.pra_list.proofs.Options.{some_same}
use Rattle.net_cost.specs.declared.weights.Weights.{Weights}
use Rattle.net_form.specs.declared.net.MemPair.{MemPair}
use Rattle.net_form.specs.declared.net.Net.{Net}
use Rattle.net_form.specs.declared.prices.Prices.{Prices}
use Rattle.net_form.specs.Flow.{Edge, flow}
use Rattle.net_form.specs.Admitted.{uses_memory, exits_at, enters_at}
use Rattle.net_form.specs.Bundles.{comes_to_bundle}
use Rattle.net_form.specs.Rooms.{zero_prices, layer_total}
use Rattle.net_dual.specs.Priced.{AreInRange, most_price, mem_price, tie_price}
use Rattle.net_dual.specs.Step.{step_of, used_price, clamp, tied_price, tied_places, next_tie, next}
use Rattle.net_dual.specs.Step.{IsChain}

pub zero_in_range : (net : Net) → AreInRange net (zero_prices net)
zero_in_range net = record {
  caps = length-replicate (6 * layer_total net.blocks) 0;
  mems = length-replicate (length net.pairs) 0;
  ties = length-replicate (13 * length net.ties) (pos 0);
  most_cap = All-replicate (λ c. c ≤ most_price) (6 * layer_total net.blocks) 0 (omega arith);
  most_mem = All-replicate (λ m. m ≤ most_price) (length net.pairs) 0 (omega arith);
  most_tie = All-replicate (λ z. z ≤ℤ pos most_price) (13 * length net.ties) (pos 0)
      (omega (arith, ints));
  least_tie = All-replicate (λ z. (pos 0 -ℤ pos most_price) ≤ℤ z) (13 * length net.ties) (pos 0)
      (omega (arith, ints));
}

-- ---- after a step

clamp_high : (z : ℤ) → clamp z ≤ℤ pos most_price
clamp_high (pos n) = omega (arith, ints)
clamp_high (negsuc n) = omega (arith, ints)

clamp_low : (z : ℤ) → (pos 0 -ℤ pos most_price) ≤ℤ clamp z
clamp_low (pos n) = omega (arith, ints)
clamp_low (negsuc n) = omega (arith, ints)

-- thirteen numbers for each tie
tie_rows : {X : Type 0} (f : X → List ℤ) (n : ℕ) → ((x : X) → length (f x) ≡ n) → (xs : List X)
    → length (flat_map f xs) ≡ sum_by (λ _. n) xs
tie_rows {X} f n each xs = length-flat_map f xs ∙ ap (λ (g : X → ℕ). sum_by g xs) (fun_ext each)

thirteen : {X : Type 0} (xs : List X) → sum_by (λ _. 13) xs ≡ 13 * length xs
thirteen [] = refl
thirteen (x ∷ xs) = let sum = sum_by-cons (λ _. 13) x xs in let more = thirteen xs in
    omega (arith, sum, more)

module _ (net : Net) (f : List Edge) (s : ℕ) (old : Prices) (range : AreInRange net old) where
  each_tie : (P : ℤ → Type 0) → ((z : ℤ) → P (clamp z)) → All P (next net f s old).ties
  each_tie P holds = All-flat_map P (next_tie net f s old) (enumerate_from 0 net.ties) (λ k d lt.
      let t = get_or (enumerate_from 0 net.ties) k d in
      All-map P (λ p. tied_price s (tie_price old t.0 p) (count_by (exits_at net t.1 p) f)
      (count_by (enters_at net t.1 p) f)) tied_places
      (λ j e in_. holds _))

  pub next_in_range : AreInRange net (next net f s old)
  next_in_range = record {
    caps =
        let same = length-map (enumerate_from 0 old.caps)
        (λ (c : ℕ × ℕ). used_price s c.1 (count_by (comes_to_bundle net c.0) f)) in
        let long = length-enumerate_from 0 old.caps in
        let was = range.caps in
        omega (arith, same, long, was);
    mems =
        let same = length-map (enumerate_from 0 net.pairs)
        (λ (m : ℕ × MemPair). used_price s (mem_price old m.0) (count_by (uses_memory m.1) f))
        in
        let long = length-enumerate_from 0 net.pairs in
        omega (arith, same, long);
    ties =
        let rows = tie_rows (next_tie net f s old) 13 (λ t. refl) (enumerate_from 0 net.ties) in
        let all = thirteen (enumerate_from 0 net.ties) in
        let long = length-enumerate_from 0 net.ties in
        omega (arith, rows, all, long);
    most_cap = All-map (λ c. c ≤ most_price)
        (λ (c : ℕ × ℕ). used_price s c.1 (count_by (comes_to_bundle net c.0) f))
        (enumerate_from 0 old.caps) (λ k d lt. omega arith);
    most_mem = All-map (λ m. m ≤ most_price) (λ (m : ℕ × MemPair). used_price s (mem_price old m.0)
        (count_by (uses_memory m.1) f)) (enumerate_from 0 net.pairs) (λ k d lt. omega arith);
    most_tie = each_tie (λ z. z ≤ℤ pos most_price) clamp_high;
    least_tie = each_tie (λ z. (pos 0 -ℤ pos most_price) ≤ℤ z) clamp_low;
  }

-- ---- along a chain of rounds

pub chain_in_range : (net : Net) (w : Weights) (chain : List Prices) → IsChain net w chain
    → (k : ℕ) (prices : Prices) → slice_get chain k ≡ Some prices → AreInRange net prices
chain_in_range net w chain is zero prices at = subst (AreInRange net)
    (some_same (zero_prices net) prices (sym is.starts ∙ at)) (zero_in_range net)
chain_in_range net w chain is (suc k) prices at =
    let before = slice_get-get_or chain k prices
    (let lt = slice_get_within chain (suc k) prices at in omega (arith, lt)) in
    let old = get_or chain k prices in
    let round = is.goes_on k old prices before at in
    subst (AreInRange net) (sym round.next)
    (next_in_range net (flow net round.family) (step_of (suc k)) old
    (chain_in_range net w chain is k old before))
