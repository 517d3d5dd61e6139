use Rattle.std.proofs.Common.{◌≡◌, ◌∙◌, ℤ, pos, length-set, get_or-set_other}
use Rattle.std.proofs.Common.{to_z, of_z, arith}
use Rattle.std.specs.Int.{w128}
use Rattle.std.proofs.lemmas.Int.{ints, to_z-of_z}
use Rattle.pra_list.proofs.Growing.{stored}
use Rattle.al_edge.specs.Totals.{IsCostAdded, number_at}
use Rattle.al_edge.proofs.weights.add_all.Goals as goal

pub loop-number-preserved : goal.loop-number-preserved
loop-number-preserved c =
    let k = c.loop-number.number in
    let first = c.args.totals.now in
    let costs = c.args.costs.now in
    let totals = c.loop-number.totals in
    let whole : to_z w128 (of_z w128 c.add.result) ≡ c.add.result
    = to_z-of_z w128 c.add.result (record { sfits = c.add.type_inv }) in
    let same = c.loop-number.invariant.left k (omega arith) in
    let more = c.add.ensures.more in
    let low = c.add.ensures.low in
    let high = c.add.ensures.high in
    let here : IsCostAdded (number_at first k) (number_at costs k) c.add.result = record {
      sum = omega (arith, ints, same, more);
      low = omega (arith, ints, same, low);
      high = omega (arith, ints, same, high);
    } in record {
      long = omega (arith, length-set {A = ℤ}, c.loop-number.invariant.long);
      added = rw whole (stored (λ j z. IsCostAdded (number_at first j) (number_at costs j) z) totals
          k c.add.result (pos 0) (omega (arith, c.loop-number.invariant.long))
          c.loop-number.invariant.added here);
      left = λ j le. get_or-set_other totals k j _ (pos 0) (omega arith)
          ∙ c.loop-number.invariant.left j (omega arith);
    }
