use Rattle.std.proofs.Common.{◌∙◌, ◌++◌, List, ap, sym, arith}
use Rattle.net_form.specs.declared.net.MemPair.{MemPair}
use Rattle.net_build.specs.Marks.{block_pairs}
use Rattle.net_build.proofs.Ranges.{flat_map_more}
use Rattle.net_build.proofs.pairs.pairs_of.Goals as goal

pub loop-block-preserved : goal.loop-block-preserved
loop-block-preserved c =
    let f = block_pairs c.args.code.now c.args.strands.now in record {
      made = c.in_ok-add_block.ensures ∙ ap (λ (l : List MemPair). l ++ f c.loop-block.block)
          c.loop-block.invariant.made ∙ sym (flat_map_more f c.loop-block.block);
      within = c.skip-from.ensures.within;
      before = λ k d lt. let less = c.skip-from.ensures.before k d lt in omega (arith, less);
    }
