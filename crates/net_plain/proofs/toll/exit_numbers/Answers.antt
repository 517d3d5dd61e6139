use Rattle.std.proofs.Common.{◌<◌, ℕ, None, length, arith}
use Rattle.std.specs.Int.{w64, w128}
use Rattle.std.proofs.lemmas.Int.{ints, to_z-of_z}
use Rattle.net_form.specs.declared.net.Tie.{Tie}
use Rattle.net_dual.specs.Priced.{pay, tie_price, exits}
use Rattle.net_dual.proofs.Totals.{sum_more}
use Rattle.net_path.specs.Grounds.{edge}
use Rattle.net_form.specs.Admitted.{no_tie}
use Rattle.net_plain.proofs.toll.exit_numbers.Goals as goal

pub loop-tie-preserved : goal.loop-tie-preserved
loop-tie-preserved c =
    let net = c.args.net.now in
    let e = edge c.args.spot.strand c.args.spot.layer None c.args.place in
    let lt : c.loop-tie.tie < length net.ties = omega arith in
    let more = sum_more (λ (t : ℕ × Tie). pay (exits net t.1 e)
    (tie_price c.args.prices.now t.0 c.args.place)) net.ties c.loop-tie.tie no_tie lt in
    let sum = to_z-of_z w128 c.add-total.result (record { sfits = c.add-total.type_inv }) in
    let one = to_z-of_z w64 c.exit_number.result (record { sfits = c.exit_number.type_inv }) in
    let from = to_z-of_z w128 c.from.result (record { sfits = c.from.type_inv }) in
    record {
      total = omega (arith, ints);
      small = record { low = omega (arith, ints); high = omega (arith, ints) };
    }
