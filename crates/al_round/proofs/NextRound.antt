-- What rounds keep, and what the next one makes of it.
use Rattle.std.proofs.Common.{◌≡◌, ℕ, suc, ◌-◌, List, [], ◌∷◌, ◌++◌, length}
use Rattle.std.proofs.Common.{refl, sym, ap, subst, ◌∙◌, arith, set, ◌≤ℤ◌, Some}
use Rattle.std.specs.Prelude.{slice_get}
use Rattle.std.proofs.lemmas.Int.{ints}
use Rattle.net_cost.specs.declared.weights.Weights.{Weights}
use Rattle.net_form.specs.declared.net.Net.{Net}
use Rattle.net_form.specs.declared.prices.Prices.{Prices}
use Rattle.net_form.specs.declared.routes.Plan.{Plan}
use Rattle.net_form.specs.Flow.{AreRoutes}
use Rattle.net_dual.proofs.Duality.{family_routes}
use Rattle.net_dual.specs.Priced.{AreInRange, cost_by_weights}
use Rattle.net_dual.specs.Step.{IsNext}
use Rattle.net_dual.specs.Value.{IsValue, IsLagrange}
use Rattle.al_round.specs.Ascents.{AreRaisedPrices}
use Rattle.al_round.specs.Candidates.{IsCandidate, CostsAtLeast}
use Rattle.al_round.specs.Rounds.{AreRoundsOf, AreKeptRaised, HasItsValue, family_of}
use Rattle.al_round.specs.Stages.{Stage, AreStages}
use Rattle.al_round.specs.Tried.{IsOutcome, IsTried}
use Rattle.al_round.specs.declared.raised.Raised.{Raised}
use Rattle.al_round.specs.declared.rounds.Rounds.{Rounds}
use Rattle.al_round.specs.declared.tried.Outcome.{Outcome}
use Rattle.al_round.specs.declared.tried.Outcome.TheVariants.{Laid, Blocked}
use Rattle.al_round.specs.declared.tried.Tried.{Tried}
use Rattle.al_round.proofs.Bounds.{stage_in_range, greatest_in_range}
use Rattle.al_round.proofs.Grown.{got_one, stages_more}
use Rattle.al_round.proofs.LinesGrown.{last_of_more}

-- the last of a list that was just made longer is another one
pub set_last : {A : Type 0} (xs : List A) (x y : A)
    → set (xs ++ x ∷ []) (length xs) y ≡ xs ++ y ∷ []
set_last [] x y = refl
set_last (z ∷ xs) x y = ap (λ ys. z ∷ ys) (set_last xs x y)

-- ---- what was tried costs so much at least

module _ (net : Net) (w : Weights) (prices : Prices) (least : ℕ) where
  outcome_at : (plan : Plan) (order : List ℕ) (outcome : Outcome)
      → IsOutcome net w prices plan order 0 outcome → CostsAtLeast net w least outcome
      → IsOutcome net w prices plan order least outcome
  outcome_at plan order (Laid routes) is at = record {
    laid = is.laid;
    are_routes = is.are_routes;
    admitted = is.admitted;
    cost = at;
  }
  outcome_at plan order (Blocked s taken) is at = is

  -- and routes that were laid may be taken
  pub candidate_of : (plan : Plan) (order : List ℕ) (outcome : Outcome)
      → IsOutcome net w prices plan order least outcome → IsCandidate net outcome
  candidate_of plan order (Laid routes) is = (is.are_routes, is.admitted)
  candidate_of plan order (Blocked s taken) is = tt

  pub tried_at : (tried : Tried) → IsTried net w prices 0 tried
      → CostsAtLeast net w least tried.outcome → IsTried net w prices least tried
  tried_at tried is at = record {
    greedy = is.greedy;
    order = is.order;
    outcome = outcome_at tried.plan tried.order tried.outcome is.outcome at;
  }

-- ---- where rounds stand

module _ (net : Net) (w : Weights) (rounds : Rounds) (stages : List Stage)
    (are : AreRoundsOf net w stages rounds) where
  pub last_number : suc (length rounds.lines - 1) ≡ length rounds.lines
  last_number =
      let some = are.allocated.are_lines.some in
      omega (arith, some)

  pub last_stage : suc (length rounds.lines - 1) ≡ length stages
  last_stage = last_number ∙ are.allocated.are_lines.many

  number : suc (length stages - 1) ≡ length stages
  number =
      let long = last_stage in
      omega (arith, long)

  pub prices_in_range : AreInRange net rounds.prices
  prices_in_range = subst (AreInRange net) (sym are.kept.same_prices)
      (stage_in_range net w stages are.allocated.are_stages (length stages - 1)
      are.kept.stage are.kept.is_last)

  pub best_in_range : AreInRange net rounds.best_prices
  best_in_range = greatest_in_range net w stages are.allocated.are_stages
      (length rounds.lines - 1) rounds.best_prices rounds.best_value are.value

  pub family_is_routes : AreRoutes net (family_of rounds)
  family_is_routes = subst (AreRoutes net) (sym are.kept.same_family)
      (family_routes net _ are.kept.stage.family
      (are.allocated.are_stages.values (length stages - 1) are.kept.stage
      are.kept.is_last).least)

  -- the last stage has the kept prices, and those that were raised
  same_stage : are.raised.stage ≡ are.kept.stage
  same_stage = got_one stages (length stages - 1) are.raised.stage are.kept.stage
      are.raised.is_last are.kept.is_last

  -- raised prices are worth no more than those that are raised from them
  pub rises : (t : Stage) → rounds.raised.value ≤ℤ t.raised_value → (s : Stage)
      → slice_get stages (length rounds.lines - 1) ≡ Some s → s.raised_value ≤ℤ t.raised_value
  rises t more s there =
      let many = are.allocated.are_lines.many in
      let at = ap (λ n. n - 1) many in
      let is : are.raised.stage ≡ s = got_one stages (length stages - 1) are.raised.stage s
      are.raised.is_last (subst (λ n. slice_get stages n ≡ Some s) at there) in
      let same = are.raised.same_value in
      subst (λ (u : Stage). u.raised_value ≤ℤ t.raised_value) is
      (omega (arith, ints, same, more))

  -- the stage that the next round adds
  pub next_stages : (t : Stage)
      → IsNext net (family_of rounds) (length rounds.lines) rounds.prices t.prices
      → IsValue net (cost_by_weights net w) t.prices t.family t.value
      → AreRaisedPrices net w rounds.raised.prices t.raised
      → IsLagrange net w t.raised t.raised_value
      → AreStages net w (stages ++ t ∷ [])
  next_stages t next value raised raised_value =
      let many = are.allocated.are_lines.many in
      let count : length rounds.lines ≡ suc (length stages - 1) = many ∙ sym number in
      stages_more stages t net w are.allocated.are_stages are.kept.stage
      (length stages - 1) number are.kept.is_last
      (subst (λ n. IsNext net are.kept.stage.family n are.kept.stage.prices t.prices) count
      (subst (λ f. IsNext net f (length rounds.lines) are.kept.stage.prices t.prices)
      are.kept.same_family
      (subst (λ p. IsNext net (family_of rounds) (length rounds.lines) p t.prices)
      are.kept.same_prices next)))
      value
      (subst (λ (u : Stage). AreRaisedPrices net w u.raised t.raised) same_stage
      (subst (λ p. AreRaisedPrices net w p t.raised) are.raised.same_prices raised))
      raised_value

  -- the raised prices of that stage are kept
  pub raised_more : (t : Stage) (raised : Raised) → raised.prices ≡ t.raised
      → raised.value ≡ t.raised_value → HasItsValue net w raised
      → AreKeptRaised net w (stages ++ t ∷ []) raised
  raised_more t raised prices value has = record {
    stage = t;
    is_last = last_of_more stages t;
    same_prices = prices;
    same_value = value;
    has_value = has;
  }
