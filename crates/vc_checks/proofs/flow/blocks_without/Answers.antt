use Rattle.std.proofs.Common.{length, sym, ◌∙◌}
use Rattle.vc_checks.specs.LeftOut.{LeavesOut, ThinsAll, begins_in, with_blocks}
use Rattle.vc_checks.proofs.Walking.{leaves_out, none_in, some_on}
use Rattle.vc_checks.proofs.flow.blocks_without.Goals as goal

pub returns : goal.returns
returns c =
    let code = c.args.code.now in
    let lists = c.args.begins.now in
    some_on (λ blocks. ThinsAll code (begins_in lists) blocks.items (length code.blocks))
    (λ blocks. LeavesOut code (with_blocks code blocks.items)) c.in_ok-blocks.blocks
    (λ blocks all. leaves_out code lists blocks.items
    (sym c.facts_at.ensures ∙ none_in c.facts_at.result.now
    (sym c.is_empty.ensures ∙ c.if-not-is_empty.false)) all)
    c.in_ok-blocks.ensures
