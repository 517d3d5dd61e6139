use Rattle.std.proofs.Common.{◌≡◌, ◌-◌, ℤ, pos, ◌≤ℤ◌, List, [], ◌∷◌, length, refl, sym}
use Rattle.std.proofs.Common.{subst, ◌∙◌, arith, to_z, of_z}
use Rattle.std.specs.Int.{w128}
use Rattle.std.proofs.lemmas.Int.{to_z-of_z}
use Rattle.net_cost.specs.Models.{weights_of}
use Rattle.net_form.specs.declared.prices.Line.{Line}
use Rattle.net_form.specs.declared.prices.Prices.{Prices}
use Rattle.net_form.specs.Rooms.{zero_prices}
use Rattle.net_dual.specs.Priced.{AreInRange}
use Rattle.net_dual.specs.Value.{IsLagrange}
use Rattle.net_dual.proofs.Ranges.{zero_in_range}
use Rattle.al_round.specs.Allocations.{IsAllocated}
use Rattle.al_round.specs.Stages.{Stage, IsGreatest, IsRoundedUp}
use Rattle.al_round.proofs.Bounds.{some_value}
use Rattle.al_round.proofs.RoundsGrown.{first_greatest, first_allocated}
use Rattle.al_round.proofs.rounds.Rounds.start.Goals as goal

pub lagrange-best_value-requires : goal.lagrange-best_value-requires
lagrange-best_value-requires g c =
    let net = c.args.net.now in
    let zero_at : c.in_ok-prices.prices ≡ zero_prices net = c.in_ok-prices.ensures in
    record {
      kept = c.requires.kept;
      net = c.requires.net;
      work = c.in_ok-work.ensures;
      prices = subst (AreInRange net) (sym zero_at) (zero_in_range net);
    }

pub rounded_up-requires : goal.rounded_up-requires
rounded_up-requires g c =
    let net = c.args.net.now in
    let w = weights_of c.args.model.now in
    let z = c.lagrange-best_value.result in
    let zero_at : c.in_ok-prices.prices ≡ zero_prices net = c.in_ok-prices.ensures in
    let whole : to_z w128 (of_z w128 z) ≡ z
    = to_z-of_z w128 z (record { sfits = c.lagrange-best_value.type_inv }) in
    subst (λ v. pos 0 ≤ℤ v) (sym whole)
    (some_value net w z (subst (λ p. IsLagrange net w p z) zero_at
    (record {
      family = c.lagrange-best_value.new.work.family;
      value = c.lagrange-best_value.ensures.value;
    })))

pub returns-clause-rounds : goal.returns-clause-rounds
returns-clause-rounds g c =
    let net = c.args.net.now in
    let w = weights_of c.args.model.now in
    let z = c.lagrange-best_value.result in
    let prices = c.in_ok-prices.prices in
    let zero_at : prices ≡ zero_prices net = c.in_ok-prices.ensures in
    let best_at : prices ≡ c.in_ok-best_prices.best_prices
    = sym c.in_ok-best_prices.ensures in
    let whole : to_z w128 (of_z w128 z) ≡ z
    = to_z-of_z w128 z (record { sfits = c.lagrange-best_value.type_inv }) in
    let raised = c.in_ok-raised.raised in
    let t : Stage = record {
      prices = prices;
      family = c.lagrange-best_value.new.work.family;
      value = z;
      raised = raised.prices;
      raised_value = raised.value;
    } in
    let value = c.lagrange-best_value.ensures.value in
    let same_prices : raised.prices ≡ prices = c.in_ok-raised.ensures.prices in
    let same_value : raised.value ≡ z = c.in_ok-raised.ensures.value ∙ whole in
    let line : Line = record {
      round = 0;
      cost = c.cost.result;
      bound = c.rounded_up.result;
    } in
    let rounded : IsRoundedUp z line.bound
    = subst (λ v. IsRoundedUp v line.bound) whole c.rounded_up.ensures in
    let best_prices = c.in_ok-best_prices.best_prices in
    let lines : (line ∷ []) ≡ c.in_ok-lines.lines = sym c.in_ok-lines.ensures in
    record {
      stages = t ∷ [];
      are = record {
        allocated = subst (λ ls. IsAllocated net w (t ∷ []) ls c.in_ok-best.best best_prices)
            lines
            (subst (IsAllocated net w (t ∷ []) (line ∷ []) c.in_ok-best.best) best_at
            (first_allocated net w t zero_at value same_prices same_value
            c.requires.net.formed c.in_ok-best.best c.in_ok-best.ensures.routes
            c.in_ok-best.ensures.admitted line refl c.cost.ensures rounded));
        kept = record {
          stage = t;
          is_last = refl;
          same_prices = refl;
          same_family = refl;
          was_tried = tt;
          none = λ one. refl;
          some = λ two. absurd (omega (arith, two));
        };
        raised = record {
          stage = t;
          is_last = refl;
          same_prices = refl;
          same_value = refl;
          has_value = record {
            in_range = subst (AreInRange net) (sym (same_prices ∙ zero_at)) (zero_in_range net);
            value = subst (IsLagrange net w raised.prices) (sym same_value)
                (subst (λ p. IsLagrange net w p z) (sym same_prices)
                (record { family = c.lagrange-best_value.new.work.family; value = value }));
          };
        };
        value = subst (λ (ls : List Line). IsGreatest (t ∷ []) (length ls - 1) best_prices
            (to_z w128 (of_z w128 z))) lines
            (subst (λ (v : ℤ). IsGreatest (t ∷ []) 0 best_prices v) (sym whole)
            (subst (λ (p : Prices). IsGreatest (t ∷ []) 0 p z) best_at
            (first_greatest net w t zero_at value same_prices same_value)));
        work = c.lagrange-best_value.ensures.reserved;
        room = tt;
      };
    }
