use Rattle.std.proofs.Common.{◌≡◌, ◌^◌, ◌∙◌, ◌+ℤ◌, Some, None, ap, sym, arith}
use Rattle.std.specs.Int.{w128}
use Rattle.std.proofs.lemmas.Int.{ints, to_z-of_z}
use Rattle.net_cost.specs.Models.{weights_of}
use Rattle.net_dual.proofs.Leasts.{within_of, same_bits}
use Rattle.net_path.specs.Grounds.{edge, is_free, is_open, there_price}
use Rattle.net_plain.proofs.Costs.{added_is}
use Rattle.net_plain.proofs.steps.there.Goals as goal

pub add-requires-clause-one : goal.add-requires-clause-one
add-requires-clause-one g c =
    let w = within_of (2 ^ 68) c.args.left c.in-Some.cost c.in-Some.is c.requires.left in
    rw (same_bits (2 ^ 68) c.in-Some.cost (omega arith) w)
    (record { low = omega (arith, ints); high = omega (arith, ints) })

pub returns : goal.returns
returns g c =
    let net = c.args.net.now in
    let e = edge c.args.spot.strand c.args.spot.layer None c.args.place in
    let price = there_price net (weights_of c.args.model.now) c.args.prices.now e in
    let cost = c.in-Some.cost in
    let within = within_of (2 ^ 68) c.args.left cost c.in-Some.is c.requires.left in
    let exact_cost = same_bits (2 ^ 68) cost (omega arith) within in
    let exact_toll = to_z-of_z w128 c.toll.result (record { sfits = c.toll.type_inv }) in
    let whole : c.add.result ≡ cost +ℤ price = omega (arith, ints) in
    rw (to_z-of_z w128 c.add.result (record { sfits = c.add.type_inv })) (record {
      value = ap Some whole ∙ sym (added_is (is_open net c.args.ends (is_free net c.args.taken.now)
          c.args.spot.strand e) price c.args.left cost
          (sym c.is_open.ensures ∙ c.if-not-is_open.false) c.in-Some.is);
      within = record { low = omega (arith, ints); high = omega (arith, ints) };
    })
