use Rattle.std.proofs.Common.{◌≢◌, ◌≤◌, ◌<◌, List, refl, sym, ap, subst, ◌∙◌, arith}
use Rattle.pra_base.specs.declared.code.Block.{Block}
use Rattle.pra_base.specs.declared.code.VProc.{VProc}
use Rattle.pra_base.specs.Valid.{instruction_count, most_instructions}
use Rattle.vc_same.specs.SameRuns.{Preserves}
use Rattle.vc_tidy.specs.KindCounts.{KeepsKinds}
use Rattle.vc_tidy.proofs.KeptKinds.{same_kinds}
use Rattle.vc_tidy.proofs.Thin.{thin_count, thin_same, thin_preserves}
use Rattle.vc_tidy.proofs.dead.thin.Goals as goal

pub thin_blocks-requires : goal.thin_blocks-requires
thin_blocks-requires c = c.requires.is_sized

pub total-requires : goal.total-requires
total-requires c =
    let fewer = thin_count c.args.code.now c.args.liveness.now c.requires.is_valid
    c.requires.is_sized c.requires.exact c.in_ok-blocks.blocks.items c.in_ok-blocks.ensures in
    let most : instruction_count c.args.code.now.blocks ≤ most_instructions =
    c.requires.is_sized.instructions in
    rw c.as_slice.ensures.value (omega (arith, fewer, most))

pub returns-then-total : goal.returns-then-total
returns-then-total c =
    thin_same c.args.code.now c.args.liveness.now c.requires.is_valid c.requires.is_sized
    c.requires.exact c.in_ok-blocks.blocks.items c.in_ok-blocks.ensures
    (sym (ap (λ (bs : List Block). instruction_count bs) c.as_slice.ensures.value)
    ∙ sym c.total.ensures ∙ c.if-total.true ∙ c.total-2.ensures
    ∙ ap (λ (bs : List Block). instruction_count bs) c.as_slice-2.ensures)

pub returns : goal.returns
returns c =
    let code = c.args.code.now in
    let news = c.in_ok-blocks.blocks.items in
    let fewer : instruction_count news ≤ instruction_count code.blocks =
    thin_count code c.args.liveness.now c.requires.is_valid c.requires.is_sized c.requires.exact
    news c.in_ok-blocks.ensures in
    let other : instruction_count news ≢ instruction_count code.blocks =
    λ same. c.if-total.false
    (c.total.ensures ∙ ap (λ (bs : List Block). instruction_count bs) c.as_slice.ensures.value
    ∙ same ∙ sym (ap (λ (bs : List Block). instruction_count bs) c.as_slice-2.ensures)
    ∙ sym c.total-2.ensures) in
    let less : instruction_count news < instruction_count code.blocks =
    omega (arith, fewer, other) in
    let new : VProc = record code { blocks = news } in
    subst (λ (n : VProc). Preserves code n × KeepsKinds code n ×
    (instruction_count n.blocks < instruction_count code.blocks)) (sym c.in_ok-new.ensures) (
      thin_preserves code c.args.liveness.now c.requires.is_valid c.requires.is_sized
          c.requires.exact new refl refl refl refl c.in_ok-blocks.ensures,
      same_kinds code new refl,
      less,
    )
