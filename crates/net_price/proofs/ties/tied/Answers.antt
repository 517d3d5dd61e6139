use Rattle.std.proofs.Common.{◌∙◌, arith}
use Rattle.std.specs.Int.{w64}
use Rattle.std.proofs.lemmas.Int.{ints, to_z-of_z}
use Rattle.net_price.proofs.Tied.{clamped}
use Rattle.net_price.proofs.ties.tied.Goals as goal

pub returns : goal.returns
returns c =
    let up = c.step_if.ensures.value in
    let down = c.step_if-2.ensures.value in
    let up_whole = to_z-of_z w64 c.step_if.result (record { sfits = c.step_if.type_inv }) in
    let down_whole = to_z-of_z w64 c.step_if-2.result (record { sfits = c.step_if-2.type_inv }) in
    to_z-of_z w64 c.clamp.result (record { sfits = c.clamp.type_inv })
    ∙ clamped c.clamp.result _ c.args.old c.args.s c.args.leaves c.args.enters c.clamp.ensures
    (omega (arith, ints, up, down, up_whole, down_whole))
