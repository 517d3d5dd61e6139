use Rattle.std.proofs.Common.{◌≡◌, ◌-◌, ℕ, suc, pos, ◌≤ℤ◌, List, [], ◌∷◌, ◌++◌, length, set, Some}
use Rattle.std.proofs.Common.{arith, rules, refl, sym, ap, subst, ◌∙◌, to_z, of_z}
use Rattle.std.specs.Int.{w128}
use Rattle.std.proofs.lemmas.Int.{to_z-of_z}
use Rattle.net_cost.specs.Models.{weights_of}
use Rattle.net_form.specs.declared.prices.Line.{Line}
use Rattle.net_form.specs.declared.prices.Prices.{Prices}
use Rattle.net_dual.specs.Priced.{AreInRange}
use Rattle.al_round.specs.Allocations.{IsAllocated, IsLatest}
use Rattle.net_form.specs.Cost.{cost_in}
use Rattle.al_round.specs.Rounds.{AreRounds}
use Rattle.al_round.specs.Stages.{Stage, IsGreatest, IsRoundedUp}
use Rattle.al_round.proofs.Bounds.{not_negative}
use Rattle.al_round.proofs.LinesGrown.{one_less}
use Rattle.al_round.proofs.NextRound.{set_last, candidate_of, tried_at, last_number, last_stage}
use Rattle.al_round.proofs.NextRound.{next_stages, prices_in_range, best_in_range, rises}
use Rattle.al_round.proofs.NextRound.{raised_more}
use Rattle.al_round.proofs.GoneOn.{stands_still}
use Rattle.al_round.proofs.RoundsGrown.{IsFound, allocated_more, kept_more}
use Rattle.al_round.proofs.rounds.Rounds.finish.Goals as goal

pub raise-requires-clause-has : goal.raise-requires-clause-has
raise-requires-clause-has g c = c.requires.rounds.are.raised.has_value

pub raise-requires-clause-room : goal.raise-requires-clause-room
raise-requires-clause-room g c =
    let net = c.args.net.now in
    let w = weights_of c.args.model.now in
    let r = c.args.self.now in
    let are = c.requires.rounds in
    record {
      next = subst (AreInRange net) (sym c.swap.ensures.y_after)
          (prices_in_range net w r are.stages are.are);
      work = c.requires.room.work;
      spare = c.requires.room.spare;
    }

-- there is no memory for a line more: nothing has changed
pub returns-in_err-push-clause-rounds : goal.returns-in_err-push-clause-rounds
returns-in_err-push-clause-rounds g c =
    let net = c.args.net.now in
    let w = weights_of c.args.model.now in
    let r = c.args.self.now in
    subst (λ (ls : List Line). AreRounds net w (record {
      best = r.best;
      prices = r.prices;
      best_prices = r.best_prices;
      lines = ls;
      tried = r.tried;
      best_value = r.best_value;
      raised = r.raised;
      work = r.work;
      most_visits = r.most_visits;
      room = r.room;
    })) (sym c.in_err-push.ensures.err) c.requires.rounds

pub keep_greatest-requires : goal.keep_greatest-requires
keep_greatest-requires g c =
    let net = c.args.net.now in
    let w = weights_of c.args.model.now in
    let r = c.args.self.now in
    let are = c.requires.rounds in
    let best = best_in_range net w r are.stages are.are in
    let next = c.requires.room.next in
    let raised = c.raise.ensures.has.in_range in
    let is : c.args.room.next ≡ c.swap.new.x = sym c.swap.ensures.x_after in
    record {
      caps = best.caps ∙ sym next.caps ∙ ap (λ (p : Prices). length p.caps) is;
      mems = best.mems ∙ sym next.mems ∙ ap (λ (p : Prices). length p.mems) is;
      ties = best.ties ∙ sym next.ties ∙ ap (λ (p : Prices). length p.ties) is;
      raised_caps = best.caps ∙ sym raised.caps;
      raised_mems = best.mems ∙ sym raised.mems;
      raised_ties = best.ties ∙ sym raised.ties;
    }

pub rounded_up-bound-requires : goal.rounded_up-bound-requires
rounded_up-bound-requires g c =
    let net = c.args.net.now in
    let w = weights_of c.args.model.now in
    let r = c.args.self.now in
    let stages = c.requires.rounds.stages in
    let are = c.requires.rounds.are in
    let z = c.lagrange-value.result in
    let top = c.keep_greatest.new.best_value in
    let t : Stage = record {
      prices = c.args.room.next;
      family = c.lagrange-value.new.work.family;
      value = z;
      raised = c.raise.new.self.prices;
      raised_value = c.raise.new.self.value;
    } in
    let more = next_stages net w r stages are t c.requires.next c.lagrange-value.ensures.value
    c.raise.ensures.raised c.raise.ensures.has.value in
    let whole : z ≡ to_z w128 (of_z w128 z)
    = sym (to_z-of_z w128 z (record { sfits = c.lagrange-value.type_inv })) in
    let raised = c.raise.new.self.value in
    let same : raised ≡ to_z w128 (of_z w128 raised) = sym (to_z-of_z w128 raised (search rules)) in
    let greatest = c.keep_greatest.ensures.greatest stages t (length r.lines - 1)
    (last_stage net w r stages are) (sym c.swap.ensures.x_after) whole refl same
    (rises net w r stages are t c.raise.ensures.no_lower) are.value in
    let is : to_z w128 (of_z w128 top) ≡ top = to_z-of_z w128 top (search rules) in
    subst (λ v. pos 0 ≤ℤ v) (sym is)
    (not_negative net w (stages ++ t ∷ []) more (suc (length r.lines - 1))
    c.keep_greatest.new.best_prices top greatest)

pub improve-cost-requires-clause-settled : goal.improve-cost-requires-clause-settled
improve-cost-requires-clause-settled g c = λ later.
    let number = c.len-number.ensures in
    c.requires.rounds.are.allocated.cost.settled (grind arith)

pub improve-cost-requires-clause-candidate : goal.improve-cost-requires-clause-candidate
improve-cost-requires-clause-candidate g c = candidate_of c.args.net.now
    (weights_of c.args.model.now) c.args.room.next 0 c.args.tried.plan c.args.tried.order
    c.args.tried.outcome c.requires.tried.outcome

pub returns-in_err-push-clause-gone_on : goal.returns-in_err-push-clause-gone_on
returns-in_err-push-clause-gone_on g c = λ stages are.
    let r = c.args.self.now in
    stands_still c.args.net.now (weights_of c.args.model.now) stages r are c.push.new.self r.work
    r.room c.in_err-push.ensures.err are.work refl are.room

pub returns-clause-line : goal.returns-clause-line
returns-clause-line g c =
    let lines = c.args.self.now.lines in
    let none : Line = record { round = 0; cost = 0; bound = 0 } in
    let line : Line = record {
      round = c.len-number.result;
      cost = c.improve-cost.result;
      bound = c.rounded_up-bound.result;
    } in
    c.set.ensures
    ∙ ap (λ (ls : List Line). set ls c.len-number.result line) c.in_ok-push.ensures.ok
    ∙ ap (λ (n : ℕ). set (lines ++ none ∷ []) n line) c.len-number.ensures
    ∙ set_last lines none line

pub returns-clause-gone_on : goal.returns-clause-gone_on
returns-clause-gone_on g c = λ stages are.
    let net = c.args.net.now in
    let w = weights_of c.args.model.now in
    let r = c.args.self.now in
    let z = c.lagrange-value.result in
    let best_prices = c.keep_greatest.new.best_prices in
    let top = c.keep_greatest.new.best_value in
    let found = c.improve-cost.new.best in
    let t : Stage = record {
      prices = c.args.room.next;
      family = c.lagrange-value.new.work.family;
      value = z;
      raised = c.raise.new.self.prices;
      raised_value = c.raise.new.self.value;
    } in
    let more = stages ++ t ∷ [] in
    let line : Line = record {
      round = c.len-number.result;
      cost = c.improve-cost.result;
      bound = c.rounded_up-bound.result;
    } in
    let are_more = next_stages net w r stages are t c.requires.next c.lagrange-value.ensures.value
    c.raise.ensures.raised c.raise.ensures.has.value in
    let whole : z ≡ to_z w128 (of_z w128 z)
    = sym (to_z-of_z w128 z (record { sfits = c.lagrange-value.type_inv })) in
    let top_is : to_z w128 (of_z w128 top) ≡ top = to_z-of_z w128 top (search rules) in
    let raised = c.raise.new.self.value in
    let same : raised ≡ to_z w128 (of_z w128 raised) = sym (to_z-of_z w128 raised (search rules)) in
    let greatest : IsGreatest more (length r.lines) best_prices top
    = subst (λ n. IsGreatest more n best_prices top) (last_number net w r stages are)
    (c.keep_greatest.ensures.greatest stages t (length r.lines - 1)
    (last_stage net w r stages are) (sym c.swap.ensures.x_after) whole refl same
    (rises net w r stages are t c.raise.ensures.no_lower) are.value) in
    let is : IsFound net w t r.best (length r.lines) top found c.args.tried line = record {
      number = c.len-number.ensures;
      rounded = subst (λ v. IsRoundedUp v line.bound) top_is c.rounded_up-bound.ensures;
      cost = c.improve-cost.ensures.cost;
      settled = c.improve-cost.ensures.settled;
      less = c.improve-cost.ensures.less;
      was_tried = tried_at net w t.prices (cost_in net w found) c.args.tried c.requires.tried
          c.improve-cost.ensures.least;
    } in
    let lines : (r.lines ++ line ∷ []) ≡ c.set.new.self = sym (returns-clause-line g c) in
    let formed = c.requires.net.formed in (
      t ∷ [],
      record {
        allocated = subst (λ ls. IsAllocated net w more ls found best_prices) lines
            (allocated_more net w formed stages r.lines r.best r.best_prices are.allocated t
            are_more r.best_value are.value best_prices top greatest c.keep_greatest.ensures.above
            found c.args.tried line is);
        kept = subst
            (λ p. IsLatest net w more (cost_in net w found) p c.improve-cost.new.work.family
            (Some c.args.tried))
            (sym c.swap.ensures.x_after)
            (subst (λ f. IsLatest net w more (cost_in net w found) t.prices f (Some c.args.tried))
            (sym c.improve-cost.ensures.family)
            (kept_more net w formed stages r.lines r.best r.best_prices are.allocated t are_more
            r.best_value are.value best_prices top greatest c.keep_greatest.ensures.above found
            c.args.tried line is));
        raised = raised_more net w r stages are t c.raise.new.self refl refl c.raise.ensures.has;
        value = subst (λ (ls : List Line). IsGreatest more (length ls - 1) best_prices top) lines
            (subst (λ n. IsGreatest more n best_prices top) (sym (one_less r.lines line)) greatest);
        work = c.improve-cost.ensures.reserved;
        room = record {
          next = c.raise.ensures.room.next;
          work = c.raise.ensures.room.work;
          spare = c.improve-cost.ensures.spare;
        };
      },
    )

pub returns-clause-rounds : goal.returns-clause-rounds
returns-clause-rounds g c =
    let rounds = c.requires.rounds in
    let on = returns-clause-gone_on g c rounds.stages rounds.are in
    record { stages = rounds.stages ++ on.0; are = on.1 }
