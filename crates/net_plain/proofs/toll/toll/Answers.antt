use Rattle.std.proofs.Common.{arith}
use Rattle.std.specs.Int.{w128}
use Rattle.std.proofs.lemmas.Int.{ints, to_z-of_z}
use Rattle.net_plain.proofs.toll.toll.Goals as goal

pub returns : goal.returns
returns g c =
    let exits = to_z-of_z w128 c.exit_numbers-exits.result
    (record { sfits = c.exit_numbers-exits.type_inv }) in
    let entries = to_z-of_z w128 c.entry_numbers-entries.result
    (record { sfits = c.entry_numbers-entries.type_inv }) in
    let a = to_z-of_z w128 c.add.result (record { sfits = c.add.type_inv }) in
    let b = to_z-of_z w128 c.subtract.result (record { sfits = c.subtract.type_inv }) in
    let sum = to_z-of_z w128 c.add-2.result (record { sfits = c.add-2.type_inv }) in
    record {
      value = omega (
        arith,
        ints,
        exits,
        entries,
        a,
        b,
        sum,
        c.extras_weight.ensures.value,
        c.register_price.ensures.value,
        c.pair_prices-pairs.ensures.value,
        c.exit_numbers-exits.ensures.value,
        c.entry_numbers-entries.ensures.value,
        c.from-register.ensures,
        c.add.ensures,
        c.subtract.ensures,
        c.add-2.ensures,
      );
      small = record { low = omega (arith, ints); high = omega (arith, ints) };
    }
