-- Where rounds stand at first, and after one round more.
use Rattle.std.proofs.Common.{◌≡◌, ℕ, zero, suc, ◌-◌, ◌≤◌, List, []}
use Rattle.std.proofs.Common.{◌∷◌, ◌++◌, length, Some, refl, sym, subst, ◌∙◌, inl, ⊎_elim}
use Rattle.std.proofs.Common.{ℤ, ◌≤ℤ◌, arith}
use Rattle.std.specs.Prelude.{slice_get}
use Rattle.std.proofs.lemmas.Int.{ints}
use Rattle.std.proofs.lemmas.List.{length_push}
use Rattle.pra_list.proofs.Elements.{got_last}
use Rattle.pra_list.proofs.Options.{some_same, none_some}
use Rattle.net_cost.specs.declared.weights.Weights.{Weights}
use Rattle.net_form.specs.declared.net.Net.{Net}
use Rattle.net_form.specs.declared.prices.Line.{Line}
use Rattle.net_form.specs.declared.prices.Prices.{Prices}
use Rattle.net_form.specs.declared.routes.Routes.{Routes}
use Rattle.net_form.specs.Admitted.{IsAdmitted}
use Rattle.net_form.specs.Flow.{flow, AreRoutes}
use Rattle.net_form.specs.Formed.{IsFormed}
use Rattle.net_form.specs.Rooms.{zero_prices}
use Rattle.net_dual.specs.Priced.{cost_by_weights}
use Rattle.net_dual.specs.Value.{IsValue, IsLagrange}
use Rattle.al_laws.specs.Settled.{AreSettled}
use Rattle.al_round.specs.Allocations.{IsAllocated, IsLatest}
use Rattle.net_form.specs.Cost.{cost_in}
use Rattle.al_round.specs.Lines.{IsCost, IsLine}
use Rattle.al_round.specs.Stages.{Stage, AreStages, IsBest, IsGreatest, IsRoundedUp}
use Rattle.al_round.specs.Tried.{IsTried}
use Rattle.al_round.specs.declared.tried.Tried.{Tried}
use Rattle.al_round.proofs.Bounds.{bound_holds, rounded_in_order}
use Rattle.al_round.proofs.LinesGrown.{one_less, last_of_more, lines_more}

-- ---- at first

module _ (net : Net) (w : Weights) (t : Stage) (zero_at : t.prices ≡ zero_prices net)
    (value : IsValue net (cost_by_weights net w) t.prices t.family t.value)
    (raised_at : t.raised ≡ t.prices) (raised_value : t.raised_value ≡ t.value) where
  only : (k : ℕ) (s : Stage) → slice_get (t ∷ []) k ≡ Some s → t ≡ s
  only zero s there = some_same t s there
  only (suc k) s there = absurd (none_some there)

  first_lagrange : IsLagrange net w t.raised t.raised_value
  first_lagrange = subst (IsLagrange net w t.raised) (sym raised_value)
      (subst (λ p. IsLagrange net w p t.value) (sym raised_at)
      (record { family = t.family; value = value }))

  pub first_stage : AreStages net w (t ∷ [])
  first_stage = record {
    starts = λ s there. subst (λ (u : Stage). u.prices ≡ zero_prices net) (only 0 s there) zero_at;
    goes_on = λ k s u one two. absurd (none_some two);
    values = λ k s there. subst
        (λ (u : Stage). IsValue net (cost_by_weights net w) u.prices u.family u.value)
        (only k s there) value;
    rise_from = λ s there. subst (λ (u : Stage). u.raised ≡ zero_prices net) (only 0 s there)
        (raised_at ∙ zero_at);
    rise = λ k s u one two. absurd (none_some two);
    raised_values = λ k s there. subst (λ (u : Stage). IsLagrange net w u.raised u.raised_value)
        (only k s there) first_lagrange;
  }

  pub first_greatest : IsGreatest (t ∷ []) 0 t.prices t.value
  first_greatest = record {
    one = inl (record {
      at = 0;
      until = omega arith;
      stage = t;
      there = refl;
      same_prices = refl;
      same_value = refl;
      first = λ j s before there. absurd (omega (arith, before));
    });
    most = λ j s le there. subst (λ (u : Stage). u.value ≤ℤ t.value) (only j s there)
        (omega (arith, ints));
    most_raised = λ s there. subst (λ (u : Stage). u.raised_value ≤ℤ t.value) (only 0 s there)
        (omega (arith, ints, raised_value));
  }

  module _ (formed : IsFormed net) (routes : Routes) (are : AreRoutes net routes)
      (may : IsAdmitted net (flow net routes)) (line : Line) (number : line.round ≡ 0)
      (cost : line.cost ≡ cost_in net w routes) (rounded : IsRoundedUp t.value line.bound) where
    first_cost : IsCost net w 0 line.cost routes
    first_cost = record {
      are_routes = are;
      admitted = may;
      is = cost;
      settled = λ some. absurd (omega (arith, some));
    }

    first_bound : IsBest (t ∷ []) 0 t.prices line.bound
    first_bound = record {
      value = t.value;
      greatest = first_greatest;
      rounded = rounded;
    }

    first_line : IsLine net w (t ∷ []) 0 line
    first_line =
        let holds = bound_holds net w (t ∷ []) first_stage 0 t.prices line.bound first_bound formed
        in
        let within = holds (flow net routes) may in
        record {
          number = number;
          routes = routes;
          cost = first_cost;
          prices = t.prices;
          bound = first_bound;
          holds = holds;
          within = omega (arith, within, cost);
          tried = λ some. absurd (omega (arith, some));
        }

    pub first_allocated : IsAllocated net w (t ∷ []) (line ∷ []) routes t.prices
    first_allocated = record {
      are_stages = first_stage;
      are_lines = record {
        many = refl;
        some = omega arith;
        each = each_line;
        costs = λ k l m one two. absurd (none_some two);
        bounds = λ k l m one two. absurd (none_some two);
      };
      last = line;
      is_last = refl;
      cost = first_cost;
      bound = first_bound;
    }
      where
        each_line : (k : ℕ) (l : Line) → slice_get (line ∷ []) k ≡ Some l
            → IsLine net w (t ∷ []) k l
        each_line zero l there = subst (IsLine net w (t ∷ []) 0) (some_same line l there)
            first_line
        each_line (suc k) l there = absurd (none_some there)

-- ---- after one round more

-- what a round finds, of so great a value so far, where rounds before it had left routes
pub record IsFound (net : Net) (w : Weights) (t : Stage) (routes : Routes) (k : ℕ)
    (value : ℤ) (found : Routes) (tried : Tried) (line : Line) : Type 0 where
  pub number : line.round ≡ k
  pub rounded : IsRoundedUp value line.bound
  pub cost : line.cost ≡ cost_in net w found
  pub settled : AreSettled net w found
  pub less : cost_in net w found ≤ cost_in net w routes
  pub was_tried : IsTried net w t.prices (cost_in net w found) tried

module _ (net : Net) (w : Weights) (formed : IsFormed net) (stages : List Stage)
    (lines : List Line) (routes : Routes) (prices : Prices)
    (a : IsAllocated net w stages lines routes prices) (t : Stage) where
  abbrev more : List Stage
  more = stages ++ t ∷ []

  long : suc (length lines - 1) ≡ length stages
  long =
      let many = a.are_lines.many in
      let some = a.are_lines.some in
      omega (arith, many, some)

  module _ (are : AreStages net w more) (value : ℤ)
      (g : IsGreatest stages (length lines - 1) prices value) (now : Prices) (top : ℤ)
      (greatest : IsGreatest more (length lines) now top) (above : value ≤ℤ top)
      (found : Routes) (tried : Tried) (line : Line)
      (is : IsFound net w t routes (length lines) top found tried line) where
    new_cost : (k : ℕ) → IsCost net w k line.cost found
    new_cost k = record {
      are_routes = is.settled.are_routes;
      admitted = is.settled.admitted;
      is = is.cost;
      settled = λ some. is.settled;
    }

    new_bound : IsBest more (length lines) now line.bound
    new_bound = record {
      value = top;
      greatest = greatest;
      rounded = is.rounded;
    }

    new_line : IsLine net w more (length lines) line
    new_line =
        let holds = bound_holds net w more are (length lines) now line.bound new_bound formed in
        let within = holds (flow net found) is.settled.admitted in
        let cost = is.cost in
        let many = a.are_lines.many in
        record {
          number = is.number;
          routes = found;
          cost = new_cost (length lines);
          prices = now;
          bound = new_bound;
          holds = holds;
          within = omega (arith, within, cost);
          tried = λ some. record {
            stage = t;
            there = subst (λ n. slice_get more n ≡ Some t) (sym many) (got_last stages t []);
            tried = tried;
            is = subst (λ n. IsTried net w t.prices n tried) (sym cost) is.was_tried;
          };
        }

    no_dearer : line.cost ≤ a.last.cost
    no_dearer =
        let old = a.cost.is in
        let new = is.cost in
        let less = is.less in
        omega (arith, old, new, less)

    -- the old value, which is the greatest there was, is no greater
    was_below : a.bound.value ≤ℤ value
    was_below = ⊎_elim
        (λ f.
        let same = f.same_value in
        let most = g.most f.at f.stage f.until f.there in
        omega (arith, ints, same, most))
        (λ r.
        let same = r.same_value in
        let most = g.most_raised r.stage r.there in
        omega (arith, ints, same, most))
        a.bound.greatest.one

    no_lower : a.last.bound ≤ line.bound
    no_lower =
        let below = was_below in
        rounded_in_order a.bound.value top a.last.bound line.bound a.bound.rounded is.rounded
        (omega (arith, ints, below, above))

    pub allocated_more : IsAllocated net w more (lines ++ line ∷ []) found now
    allocated_more = record {
      are_stages = are;
      are_lines = lines_more net w stages t lines a.are_lines a.last line a.is_last new_line
          no_dearer no_lower;
      last = line;
      is_last = last_of_more lines line;
      cost = new_cost (length (lines ++ line ∷ []) - 1);
      bound = subst (λ k. IsBest more k now line.bound) (sym (one_less lines line)) new_bound;
    }

    pub kept_more : IsLatest net w more (cost_in net w found) t.prices t.family (Some tried)
    kept_more =
        let many = length_push stages t in
        let some = a.are_lines.some in
        let same = a.are_lines.many in
        record {
          stage = t;
          is_last = last_of_more stages t;
          same_prices = refl;
          same_family = refl;
          was_tried = is.was_tried;
          none = λ one. absurd (omega (arith, one, many, some, same));
          some = λ two. refl;
        }
