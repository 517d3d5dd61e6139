use Rattle.std.proofs.Common.{◌≡◌, length, sym, ap, ◌∙◌, subst, arith}
use Rattle.std.proofs.lemmas.List.{get_or_read}
use Rattle.pra_base.specs.Code.{block_of, no_block}
use Rattle.pra_base.specs.declared.code.Block.{Block}
use Rattle.pra_base.specs.declared.code.VProc.{VProc}
use Rattle.vc_build.specs.Grow.{count, IsOpen, with_open_block}
use Rattle.vc_build.proofs.Growth.{opened_count}
use Rattle.vc_select.proofs.Walking.{beside_open}
use Rattle.vc_select.proofs.split.open_beside.Goals as goal

pub returns-clause-is_open : goal.returns-clause-is_open
returns-clause-is_open c =
    subst (λ (z : VProc). IsOpen z c.args.at.0) (sym c.in_ok-block.ensures.made)
    (beside_open c.index.result.now.depth c.args.code.now c.args.at.0 c.requires)

pub returns-clause-vars : goal.returns-clause-vars
returns-clause-vars c = omega (arith, ap (λ (z : VProc). length z.vars) c.in_ok-block.ensures.made)

pub returns-clause-blocks : goal.returns-clause-blocks
returns-clause-blocks c =
    omega (
      arith,
      ap count c.in_ok-block.ensures.made,
      opened_count c.index.result.now.depth c.args.code.now,
    )

pub returns-clause-made : goal.returns-clause-made
returns-clause-made c =
    let same : c.index.result.now.depth ≡ (block_of c.args.code.now c.args.at.0).depth =
    ap (λ (b : Block). b.depth)
    (get_or_read c.args.code.now.blocks c.args.at.0 c.index.result.now c.requires.0
    c.index.ensures no_block) in
    c.in_ok-block.ensures.made ∙ ap (λ n. with_open_block n c.args.code.now) same
