-- What bounds are: rounded values, below the cost of every flow and not below the free bound.
use Rattle.std.proofs.Common.{◌≡◌, ℕ, zero, suc, ◌*◌, ◌≤◌, List, length, Some}
use Rattle.std.proofs.Common.{sym, subst, ◌∙◌, arith, sum_by, get_or, ⊎_elim}
use Rattle.std.proofs.Common.{ℤ, pos, ◌≤ℤ◌}
use Rattle.std.specs.Prelude.{slice_get}
use Rattle.std.specs.List.{range_with_len}
use Rattle.std.proofs.lemmas.Int.{ints}
use Rattle.std.proofs.lemmas.Option.{slice_get_within}
use Rattle.std.proofs.lemmas.List.Folds.{sum_by-replicate}
use Rattle.net_cost.specs.declared.weights.Weights.{Weights}
use Rattle.net_form.specs.declared.net.Net.{Net}
use Rattle.net_form.specs.declared.prices.Prices.{Prices}
use Rattle.net_form.specs.Cost.{cost_of}
use Rattle.net_form.specs.Flow.{Edge}
use Rattle.net_form.specs.Formed.{IsFormed}
use Rattle.net_form.specs.Admitted.{IsAdmitted}
use Rattle.net_form.specs.Rooms.{zero_prices, layer_total}
use Rattle.net_dual.specs.Paths.{path_in, path_edges}
use Rattle.net_dual.specs.Priced.{AreInRange, cost_by_weights, priced}
use Rattle.net_dual.specs.Step.{step_of}
use Rattle.net_dual.specs.Value.{IsLagrange, IsFreeBound, all_paid, routes_price}
use Rattle.net_dual.proofs.Duality.{duality_of_weights, one_lagrange}
use Rattle.net_dual.proofs.FreeBound.{free_path, free_bound}
use Rattle.net_dual.proofs.Ranges.{zero_in_range, next_in_range}
use Rattle.net_dual.proofs.Totals.{total-agree, total-scale}
use Rattle.net_form.specs.Flow.{flow}
use Rattle.al_round.specs.Stages.{Stage, AreStages, IsFirstGreatest, IsLastRaised, IsGreatest}
use Rattle.al_round.specs.Stages.{IsBest, IsRoundedUp}
use Rattle.al_round.proofs.Grown.{got_within}

-- ---- rounding up

pub rounded_below : (v : ℤ) (b n : ℕ) → IsRoundedUp v b → v ≤ℤ pos (1024 * n) → b ≤ n
rounded_below v b n up le =
    let least = up.least in
    omega (arith, ints, least, le)

pub rounded_above : (v : ℤ) (b n : ℕ) → IsRoundedUp v b → pos (1024 * n) ≤ℤ v → n ≤ b
rounded_above v b n up le =
    let enough = up.enough in
    omega (arith, ints, enough, le)

pub rounded_in_order : (u v : ℤ) (b c : ℕ) → IsRoundedUp u b → IsRoundedUp v c → u ≤ℤ v → b ≤ c
rounded_in_order u v b c one other le =
    let least = one.least in
    let enough = other.enough in
    omega (arith, ints, least, enough, le)

-- ---- prices of nothing

nothing_paid : (net : Net) → all_paid (zero_prices net) ≡ 0
nothing_paid net =
    let caps = sum_by-replicate (λ (x : ℕ). x) (6 * layer_total net.blocks) 0 in
    let mems = sum_by-replicate (λ (x : ℕ). x) (length net.pairs) 0 in
    omega (arith, caps, mems)

-- what they are worth is not negative
pub some_value : (net : Net) (w : Weights) (z : ℤ) → IsLagrange net w (zero_prices net) z
    → pos 0 ≤ℤ z
some_value net w z l =
    let cost = cost_by_weights net w in
    let numbers = range_with_len 0 (length net.strands) in
    let pays : ℕ → ℕ = λ s. sum_by cost (path_edges net s (path_in l.family s)) in
    let whole : routes_price net (priced net cost (zero_prices net)) l.family
    ≡ pos (1024 * sum_by pays numbers)
    = total-agree _ (λ s. pos (1024 * pays s)) numbers
    (λ k d lt. free_path net cost (get_or numbers k d) (path_in l.family (get_or numbers k d)))
    ∙ total-scale pays numbers in
    let paid = nothing_paid net in
    let is = l.value.is in
    omega (arith, ints, whole, paid, is)

module _ (net : Net) (w : Weights) (stages : List Stage) (are : AreStages net w stages) where
  -- prices of stages are in range
  pub stage_in_range : (k : ℕ) (s : Stage) → slice_get stages k ≡ Some s
      → AreInRange net s.prices
  stage_in_range zero s there = subst (AreInRange net) (sym (are.starts s there))
      (zero_in_range net)
  stage_in_range (suc k) t there =
      let lt = slice_get_within stages (suc k) t there in
      let before = got_within stages k (omega (arith, lt)) in
      subst (AreInRange net) (sym (are.goes_on k before.0 t before.1 there))
      (next_in_range net (flow net before.0.family) (step_of (suc k)) before.0.prices
      (stage_in_range k before.0 before.1))

  pub raised_in_range : (k : ℕ) (s : Stage) → slice_get stages k ≡ Some s
      → AreInRange net s.raised
  raised_in_range zero s there = subst (AreInRange net) (sym (are.rise_from s there))
      (zero_in_range net)
  raised_in_range (suc k) t there =
      let lt = slice_get_within stages (suc k) t there in
      let before = got_within stages k (omega (arith, lt)) in
      (are.rise k before.0 t before.1 there).in_range

  lagrange_at : (k : ℕ) (s : Stage) → slice_get stages k ≡ Some s
      → IsLagrange net w s.prices s.value
  lagrange_at k s there = record { family = s.family; value = are.values k s there }

  module _ (k : ℕ) (prices : Prices) (value : ℤ) (g : IsGreatest stages k prices value) where
    first_in_range : IsFirstGreatest stages k prices value → AreInRange net prices
    first_in_range f = subst (AreInRange net) (sym f.same_prices)
        (stage_in_range f.at f.stage f.there)

    last_in_range : IsLastRaised stages k prices value → AreInRange net prices
    last_in_range r = subst (AreInRange net) (sym r.same_prices)
        (raised_in_range k r.stage r.there)

    pub greatest_in_range : AreInRange net prices
    greatest_in_range = ⊎_elim first_in_range last_in_range g.one

    first_value : IsFirstGreatest stages k prices value → IsLagrange net w prices value
    first_value f = subst (IsLagrange net w prices) (sym f.same_value)
        (subst (λ p. IsLagrange net w p f.stage.value) (sym f.same_prices)
        (lagrange_at f.at f.stage f.there))

    last_value : IsLastRaised stages k prices value → IsLagrange net w prices value
    last_value r = subst (IsLagrange net w prices) (sym r.same_value)
        (subst (λ p. IsLagrange net w p r.stage.raised_value) (sym r.same_prices)
        (are.raised_values k r.stage r.there))

    -- the value is that of the prices
    pub greatest_value : IsLagrange net w prices value
    greatest_value = ⊎_elim first_value last_value g.one

    -- no admitted flow costs less
    pub value_bounds : IsFormed net → (f : List Edge) → IsAdmitted net f
        → value ≤ℤ pos (1024 * cost_of net w f)
    value_bounds formed f a = duality_of_weights net w prices value f formed greatest_in_range
        greatest_value a

    some_there : 1 ≤ length stages
    some_there = ⊎_elim
        (λ f.
        let lt = slice_get_within stages f.at f.stage f.there in
        omega (arith, lt))
        (λ r.
        let lt = slice_get_within stages k r.stage r.there in
        omega (arith, lt))
        g.one

    pub first_there : (s : Stage) × (slice_get stages 0 ≡ Some s)
    first_there =
        let some = some_there in
        got_within stages 0 (omega (arith, some))

    -- the value of round 0 is not negative, and so no later one is
    pub not_negative : pos 0 ≤ℤ value
    not_negative =
        let first = first_there in
        let low = some_value net w first.0.value
        (subst (λ p. IsLagrange net w p first.0.value) (are.starts first.0 first.1)
        (lagrange_at 0 first.0 first.1)) in
        let above = g.most 0 first.0 (omega arith) first.1 in
        omega (arith, ints, low, above)

    pub above_free : (free : ℕ) → IsFreeBound net w free → pos (1024 * free) ≤ℤ value
    above_free free is_free =
        let first = first_there in
        let same = one_lagrange net w (zero_prices net) first.0.value (pos (1024 * free))
        (subst (λ p. IsLagrange net w p first.0.value) (are.starts first.0 first.1)
        (lagrange_at 0 first.0 first.1)) ((free_bound net w free).0 is_free) in
        let above = g.most 0 first.0 (omega arith) first.1 in
        omega (arith, ints, same, above)

  module _ (k : ℕ) (prices : Prices) (b : ℕ) (best : IsBest stages k prices b) where
    pub bound_holds : IsFormed net → (f : List Edge) → IsAdmitted net f → b ≤ cost_of net w f
    bound_holds formed f a = rounded_below best.value b (cost_of net w f) best.rounded
        (value_bounds k prices best.value best.greatest formed f a)

    pub bound_above_free : (free : ℕ) → IsFreeBound net w free → free ≤ b
    bound_above_free free is_free = rounded_above best.value b free best.rounded
        (above_free k prices best.value best.greatest free is_free)

  -- round 0 has no prices but those of nothing
  module _ (prices : Prices) (b : ℕ) (best : IsBest stages 0 prices b) where
    first_prices : IsFirstGreatest stages 0 prices best.value → prices ≡ zero_prices net
    first_prices f =
        let until = f.until in
        let at : f.at ≡ 0 = omega (arith, until) in
        f.same_prices
        ∙ are.starts f.stage (subst (λ n. slice_get stages n ≡ Some f.stage) at f.there)

    last_prices : IsLastRaised stages 0 prices best.value → prices ≡ zero_prices net
    last_prices r = r.same_prices ∙ are.rise_from r.stage r.there

    -- so its bound is what these are worth
    pub first_bound : (z : ℤ) → IsLagrange net w (zero_prices net) z → IsRoundedUp z b
    first_bound z is =
        let none = ⊎_elim first_prices last_prices best.greatest.one in
        let same = one_lagrange net w (zero_prices net) best.value z
        (subst (λ p. IsLagrange net w p best.value) none
        (greatest_value 0 prices best.value best.greatest)) is in
        subst (λ v. IsRoundedUp v b) same best.rounded

    pub first_is_free : (free : ℕ) → IsFreeBound net w free → b ≡ free
    first_is_free free is_free =
        let up = first_bound (pos (1024 * free)) ((free_bound net w free).0 is_free) in
        let below = rounded_below (pos (1024 * free)) b free up (omega (arith, ints)) in
        let above = rounded_above (pos (1024 * free)) b free up (omega (arith, ints)) in
        omega (arith, below, above)
