use Rattle.std.proofs.Common.{ℕ, ◌≡◌, ◌^◌, ◌∙◌, ℤ, pos, ◌+ℤ◌, ◌≤ℤ◌, ◌<ℤ◌, Option, None}
use Rattle.std.proofs.Common.{length-set, ap, subst, arith, rules, w64, to_z, of_z}
use mir.Val.{SFits}
use Rattle.std.proofs.lemmas.Int.{to_z-of_z}
use Rattle.std.specs.Option.{MatchOption}
use Rattle.pra_list.proofs.Growing.{stored}
use Rattle.net_path.specs.Choices.{IsStart}
use Rattle.net_path.specs.Ways.{at, start_price}
use Rattle.net_path.proofs.path.start_costs.Goals as goal

pub loop-number-preserved : goal.loop-number-preserved
loop-number-preserved c =
    let way = start_price c.args.ways.now c.args.constant in
    let costs = c.args.row.now.costs in
    let k = c.loop-number.number in
    let choice = c.begin_at-choice.result in
    let cost : choice.debt.cost ≡ way k +ℤ at costs k = c.begin_at-choice.ensures.is
    ∙ ap (λ (j : ℕ). way j +ℤ at costs j) c.place_of.ensures in
    let fits : SFits w64 choice.debt.cost = search rules in
    let whole : to_z w64 (of_z w64 choice.debt.cost) ≡ choice.debt.cost =
    to_z-of_z w64 choice.debt.cost fits in
    record {
      long = omega (arith, length-set {A = Option ℤ}, c.loop-number.invariant.long);
      starts = stored (IsStart way costs) c.loop-number.costs k c.reached.result None
          (omega (arith, c.loop-number.invariant.long)) c.loop-number.invariant.starts
          (subst (λ (x : ℤ). MatchOption c.reached.result (pos (2 ^ 61) ≤ℤ x)
          (λ z. (z ≡ x) × (z <ℤ pos (2 ^ 61)))) cost
          (rw whole at c.reached.ensures));
    }
