use Rattle.std.proofs.Common.{◌≡◌, ◌+◌, ◌+ℤ◌, subst, arith, to_z, of_z}
use Rattle.std.specs.Int.{w128}
use Rattle.std.proofs.lemmas.Int.{ints, to_z-of_z}
use Rattle.net_cost.specs.Models.{weights_of}
use Rattle.net_dual.specs.Priced.{edge_price}
use Rattle.cert_check.specs.Pass.{AreLeastCosts}
use Rattle.cert_check.proofs.LeastSums.{costs_more}
use Rattle.cert_check.proofs.value.least_costs.Goals as goal

pub loop-strand-preserved : goal.loop-strand-preserved
loop-strand-preserved g c =
    let net = c.args.net.now in
    let price = edge_price net (weights_of c.args.model.now) c.args.tolls.now.prices in
    let n = c.loop-strand.strand in
    let inv = c.loop-strand.invariant in
    let total = to_z w128 c.loop-strand.total-bits in
    let cost = c.least_cost.result in
    let exact = to_z-of_z w128 cost (record { sfits = c.least_cost.type_inv }) in
    let whole = to_z-of_z w128 c.add-total.result (record { sfits = c.add-total.type_inv }) in
    let is : total +ℤ cost ≡ to_z w128 (of_z w128 c.add-total.result) = omega (arith, ints) in
    record {
      sum = subst (AreLeastCosts net price (n + 1)) is
          (costs_more net price n total cost inv.sum c.least_cost.ensures.least);
      within = record { low = omega (arith, ints); high = omega (arith, ints) };
    }
