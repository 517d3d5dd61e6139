use Rattle.std.proofs.Common.{◌≡◌, ◌<◌, length, get_or, ap, subst, refl, ◌∙◌, arith}
use Rattle.pra_base.specs.declared.code.Block.{Block}
use Rattle.vc_live.specs.Sets.{contains}
use Rattle.vc_live.specs.Spreading.{makes}
use Rattle.vc_live.proofs.Made.{fits_block, block_read, no_sets, more_sets}
use Rattle.vc_live.proofs.solve.made.Goals as goal

pub loop-block-init : goal.loop-block-init
loop-block-init c = rw c.in_ok-sets.ensures.items (no_sets _ _)

pub made_by-requires-clause-code : goal.made_by-requires-clause-code
made_by-requires-clause-code c =
    let b = c.loop-block.block-index in
    let within : b < length c.args.code.now.blocks =
    omega (arith, ap length c.as_slice-block-items.ensures) in
    fits_block c.args.code.now b (length c.args.constants.now) _ c.block-item.result _ within
    (subst (λ xs. c.block-item.result ≡ get_or xs b c.block-item.result)
    c.as_slice-block-items.ensures c.block-item.is) c.requires.range
    refl c.as_slice.ensures

pub loop-block-preserved : goal.loop-block-preserved
loop-block-preserved c =
    let b = c.loop-block.block-index in
    let within : b < length c.args.code.now.blocks =
    omega (arith, ap length c.as_slice-block-items.ensures) in
    let read = block_read c.args.code.now b c.block-item.result within
    (subst (λ xs. c.block-item.result ≡ get_or xs b c.block-item.result)
    c.as_slice-block-items.ensures c.block-item.is) in
    rw c.in_ok-push.ensures.items (more_sets _ c.loop-block.sets.items _ b _
    c.loop-block.invariant c.in_ok-made_by.ensures.words
    (λ v. c.in_ok-made_by.ensures.members v
    ∙ ap (λ is. makes (contains c.args.constants.now) is v) c.as_slice.ensures
    ∙ ap (λ (x : Block). makes (contains c.args.constants.now) x.code v) read))
