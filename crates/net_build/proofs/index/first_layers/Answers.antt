use Rattle.std.proofs.Common.{ℕ, ◌≡◌, ◌+◌, ◌∷◌, ◌++◌, [], ◌∙◌, List, length, get_or, map, sym, ap}
use Rattle.std.proofs.Common.{arith}
use Rattle.std.specs.List.{range_with_len}
use Rattle.std.proofs.lemmas.List.Sums.{sum_by_more}
use Rattle.net_form.specs.declared.net.NetBlock.{NetBlock}
use Rattle.net_form.specs.Formed.{no_block}
use Rattle.net_form.specs.Index.{first_layer}
use Rattle.net_build.proofs.Ranges.{map_more}
use Rattle.net_build.proofs.index.first_layers.Goals as goal

pub loop-block-preserved : goal.loop-block-preserved
loop-block-preserved c =
    let blocks = c.args.blocks.now in
    let n = c.loop-block.block-index in
    let items = c.as_slice-block-items.ensures in
    let long = ap length items in
    let test = c.loop-block-test.true in
    let more = sum_by_more (λ (k : NetBlock). k.layers) blocks n no_block
    (omega (arith, test, long)) in
    let one = ap (λ (bs : List NetBlock). (get_or bs n no_block).layers) items in
    let total = c.loop-block.invariant.total in
    record {
      made = c.in_ok-push.ensures.ok ∙ (λ i. c.loop-block.invariant.made i ++ total i ∷ [])
          ∙ sym (map_more (first_layer blocks) n);
      total = omega (arith, more, one, total);
    }

pub returns : goal.returns
returns c =
    let blocks = c.args.blocks.now in
    let n = c.loop-block.block-index in
    let items = c.as_slice-block-items.ensures in
    let long = ap length items in
    let test = c.loop-block-test.false in
    let end = c.loop-block.auto.block-index-end in
    let all : n ≡ length blocks = omega (arith, test, end, long) in
    c.in_ok-push-2.ensures.ok
    ∙ (λ i. c.loop-block.invariant.made i ++ c.loop-block.invariant.total i ∷ [])
    ∙ sym (map_more (first_layer blocks) n)
    ∙ ap (λ (m : ℕ). map (first_layer blocks) (range_with_len 0 (m + 1))) all
