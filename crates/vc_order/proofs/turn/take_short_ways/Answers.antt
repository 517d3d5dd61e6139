use Rattle.std.proofs.Common.{◌≡◌, suc, ◌<◌, ◌⊎◌, List, length, refl, sym, ap, ◌∙◌, subst, arith}
use Rattle.std.proofs.lemmas.List.{get_or_read}
use Rattle.pra_base.specs.declared.code.Block.{Block}
use Rattle.pra_base.specs.Code.{no_block, block_in}
use Rattle.vc_order.specs.Turned.{turned, IsShort}
use Rattle.vc_order.proofs.Turning.{AreShort, none_short, one_short, with_end_of, all_short}
use Rattle.vc_order.proofs.turn.take_short_ways.Goals as goal

pub loop-b-init : goal.loop-b-init
loop-b-init c = subst (AreShort c.args.code.blocks 0) (sym c.into_vec-blocks.ensures)
    (none_short c.args.code.blocks)

pub loop-b-preserved : goal.loop-b-preserved
loop-b-preserved c =
    let items = c.loop-b.blocks.items in
    let there : c.loop-b.b < length items =
    omega (
      arith,
      c.loop-b-test.true,
      c.len-b-end.ensures,
      c.into_vec-blocks.result.ok.0,
      ap (λ (l : List Block). length l) c.into_vec-blocks.ensures,
      c.loop-b.invariant.count,
    ) in
    let read : c.index.result.now ≡ block_in items c.loop-b.b =
    get_or_read items c.loop-b.b c.index.result.now there c.index.ensures no_block in
    let put : c.index_mut.result.now ≡ block_in items c.loop-b.b =
    get_or_read items c.loop-b.b c.index_mut.result.now there c.index_mut.ensures.value no_block in
    one_short c.args.code.blocks items c.loop-b.b
    (record c.index_mut.result.now { end = c.short_end.result }) c.loop-b.invariant there
    (with_end_of c.index_mut.result.now c.index.result.now (block_in items c.loop-b.b)
    c.short_end.result put read c.short_end.ensures.same)
    c.short_end.ensures.short

pub returns-clause-turned : goal.returns-clause-turned
returns-clause-turned c = record {
  id = refl;
  args = refl;
  aggregates = refl;
  vars = refl;
  count = ap (λ (l : List Block). length l) c.from_vec.ensures ∙ c.loop-b.invariant.count;
  blocks = λ b. subst (λ (l : List Block). (block_in l b ≡ block_in c.args.code.blocks b) ⊎
      (block_in l b ≡ turned (block_in c.args.code.blocks b))) (sym c.from_vec.ensures)
      (c.loop-b.invariant.blocks b);
}

pub returns-clause-short : goal.returns-clause-short
returns-clause-short c = λ b.
    subst (λ (l : List Block). IsShort (suc b) (block_in l b).end) (sym c.from_vec.ensures)
    (all_short c.args.code.blocks c.loop-b.blocks.items c.loop-b.b c.loop-b.invariant
    (omega (
      arith,
      c.loop-b-test.false,
      c.len-b-end.ensures,
      c.into_vec-blocks.result.ok.0,
      ap (λ (l : List Block). length l) c.into_vec-blocks.ensures,
    ))
    b)
