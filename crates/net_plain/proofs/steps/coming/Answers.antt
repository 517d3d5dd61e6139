use Rattle.std.proofs.Common.{◌≡◌, ◌*◌, ◌^◌, ◌∙◌, pos, ◌+ℤ◌, Some, ap, sym, arith}
use Rattle.std.specs.Int.{w128}
use Rattle.std.proofs.lemmas.Int.{ints, to_z-of_z}
use Rattle.net_cost.specs.Models.{weights_of}
use Rattle.net_form.specs.Admitted.{stays_across}
use Rattle.net_form.specs.Cost.{way_cost}
use Rattle.net_form.specs.Tables.{all_tables}
use Rattle.net_dual.proofs.Leasts.{within_of, same_bits}
use Rattle.net_path.specs.Grounds.{edge}
use Rattle.net_plain.proofs.Costs.{added_is, added_shut}
use Rattle.net_plain.proofs.steps.coming.Goals as goal

pub add-requires-clause-one : goal.add-requires-clause-one
add-requires-clause-one g c =
    let w = within_of (2 ^ 108) c.args.left c.in-Some.cost c.in-Some.is c.requires.left in
    rw (same_bits (2 ^ 108) c.in-Some.cost (omega arith) w)
    (record { low = omega (arith, ints); high = omega (arith, ints) })

pub returns : goal.returns
returns g c =
    let s = c.args.spot.strand in
    let e = edge s c.args.spot.layer c.args.from c.args.to in
    let price = pos (1024 * way_cost all_tables c.args.net.now (weights_of c.args.model.now) e) in
    let cost = c.in-Some.cost in
    let within = within_of (2 ^ 108) c.args.left cost c.in-Some.is c.requires.left in
    let exact_cost = same_bits (2 ^ 108) cost (omega arith) within in
    let exact_way = to_z-of_z w128 c.in_units.result (record { sfits = c.in_units.type_inv }) in
    let whole : c.add.result ≡ cost +ℤ price = omega (arith, ints) in
    rw (to_z-of_z w128 c.add.result (record { sfits = c.add.type_inv }))
    (ap Some whole ∙ sym (added_is (stays_across e) price c.args.left cost
    (sym (c.may_come.ensures s) ∙ c.if-not-may_come.false) c.in-Some.is))

pub returns-then-not-may_come : goal.returns-then-not-may_come
returns-then-not-may_come g c = sym (added_shut _ _ c.args.left
    (sym (c.may_come.ensures c.args.spot.strand) ∙ c.if-not-may_come.true))
