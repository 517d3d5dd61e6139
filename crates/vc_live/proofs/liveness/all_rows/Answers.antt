use Rattle.std.proofs.Common.{◌≡◌, ◌<◌, length, get_or, ap, subst, refl, arith}
use Rattle.vc_live.proofs.Made.{fits_block}
use Rattle.vc_live.proofs.liveness.all_rows.Goals as goal

pub block_rows-requires-clause-code : goal.block_rows-requires-clause-code
block_rows-requires-clause-code c =
    let b = c.loop-block.block-index in
    let within : b < length c.args.code.now.blocks =
    omega (arith, ap length c.as_slice-block-items.ensures) in
    fits_block c.args.code.now b (length c.args.now.now) _ c.block-item.result _ within
    (subst (λ xs. c.block-item.result ≡ get_or xs b c.block-item.result)
    c.as_slice-block-items.ensures c.block-item.is) c.requires.range
    c.loop-block.invariant.words refl
