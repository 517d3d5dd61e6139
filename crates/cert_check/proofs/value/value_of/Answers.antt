use Rattle.std.proofs.Common.{◌≡◌, ◌-ℤ◌, subst, arith, to_z, of_z}
use Rattle.std.specs.Int.{w128}
use Rattle.std.proofs.lemmas.Int.{ints, to_z-of_z}
use Rattle.net_cost.specs.Models.{weights_of}
use Rattle.net_dual.specs.Value.{IsLagrange}
use Rattle.cert_check.proofs.LeastSums.{value_of_costs}
use Rattle.cert_check.proofs.value.value_of.Goals as goal

pub returns : goal.returns
returns g c =
    let net = c.args.net.now in
    let w = weights_of c.args.model.now in
    let prices = c.args.prices in
    let costs = c.least_costs.result in
    let paid = c.paid-paid.result in
    let exact_costs = to_z-of_z w128 costs (record { sfits = c.least_costs.type_inv }) in
    let exact_paid = to_z-of_z w128 paid (record { sfits = c.paid-paid.type_inv }) in
    let whole = to_z-of_z w128 c.subtract.result (record { sfits = c.subtract.type_inv }) in
    let is : costs -ℤ paid ≡ to_z w128 (of_z w128 c.subtract.result) = omega (arith, ints) in
    record {
      value = subst (IsLagrange net w prices) is (value_of_costs net w prices costs paid
          c.least_costs.ensures.sum c.paid-paid.ensures.value);
      within = record { low = omega (arith, ints); high = omega (arith, ints) };
    }
