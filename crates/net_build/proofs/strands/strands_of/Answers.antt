use Rattle.std.proofs.Common.{◌∙◌, ◌++◌, List, ap, sym}
use Rattle.net_form.specs.declared.net.Strand.{Strand}
use Rattle.net_form.specs.Strands.{block_strands}
use Rattle.net_form.specs.Tables.{all_tables}
use Rattle.vc_live.specs.Rows.{live_at}
use Rattle.net_build.proofs.Ranges.{flat_map_more}
use Rattle.net_build.proofs.strands.strands_of.Goals as goal

pub loop-block-preserved : goal.loop-block-preserved
loop-block-preserved c =
    let f = block_strands all_tables c.args.code.now (live_at c.args.live.now) in
    c.in_ok-add_block.ensures ∙ ap (λ (l : List Strand). l ++ f c.loop-block.block)
    c.loop-block.invariant ∙ sym (flat_map_more f c.loop-block.block)
