use Rattle.std.proofs.Common.{rules, ◌≡◌, ◌+◌, ◌++◌, [], ◌∷◌, length, take, get_or, refl, sym, ap}
use Rattle.std.proofs.Common.{◌∙◌, subst, ◌<◌, ◌≤◌, arith}
use Rattle.std.proofs.lemmas.Option.{slice_get_read, slice_get_within}
use Rattle.std.proofs.lemmas.List.{take_more}
use Rattle.ia_emit.proofs.Blocks.{no_blocks, no_first, one_block_more, one_first_more, all_first}
use Rattle.ia_emit.specs.Sound.{EachOffsetFits}
use Rattle.ia_emit.proofs.Each.{below_none, below_next}
use Rattle.pl_place.specs.declared.placed.LBlock.{LBlock}
use Rattle.pl_place.specs.declared.placed.LInstr.TheVariants as placed
use Rattle.ia_emit.proofs.body.list_body.Goals as goal

pub loop-k-init : goal.loop-k-init
loop-k-init c = record {
  items = no_blocks c.args.frame.now.proc.now c.new-items.result.items c.prologue.result.items
      c.append.new.items.items c.new-items.ensures.items c.prologue.ensures c.in_ok-append.ensures;
  count = search rules;
  first = no_first c.args.frame.now.proc.now c.new-first.result.items;
  offsets = below_none (λ (b : LBlock). EachOffsetFits b.code) c.args.frame.now.proc.now.blocks;
}

pub loop-k-preserved : goal.loop-k-preserved
loop-k-preserved c =
    let p = c.args.frame.now.proc.now in
    let k = c.loop-k.k in
    let b = c.block-item.result in
    let lt : k < length p.blocks = subst (λ l. k < length l) c.as_slice-block-items.ensures
    c.loop-k-test.true in
    let item : b ≡ get_or p.blocks k b = c.block-item.is
    ∙ ap (λ l. get_or l k b) c.as_slice-block-items.ensures in
    let next : take (k + 1) p.blocks ≡ take k p.blocks ++ b ∷ [] = take_more p.blocks k b lt
    ∙ ap (λ x. take k p.blocks ++ x ∷ []) (sym item) in
    let pushed : c.push.new.self.items ≡ c.loop-k.first.items ++ length c.loop-k.items.items ∷ [] =
    search rules in
    record {
      items = one_block_more p k b lt next c.loop-k.items.items c.append_block.new.items.items
          c.loop-k.invariant.items c.in_ok-append_block.ensures.items;
      count = search rules;
      first = one_first_more p k c.loop-k.items.items c.loop-k.first.items c.push.new.self.items
          c.loop-k.invariant.items c.loop-k.invariant.count pushed c.loop-k.invariant.first;
      offsets = below_next (λ (b : LBlock). EachOffsetFits b.code) p.blocks k b
          (slice_get_read p.blocks _ k b refl lt item) c.in_ok-append_block.ensures.offsets
          c.loop-k.invariant.offsets;
    }

pub returns-clause-first : goal.returns-clause-first
returns-clause-first c = all_first c.args.frame.now.proc.now c.loop-k.k c.loop-k.first.items
    (subst (λ l. length l ≤ c.loop-k.k) c.as_slice-block-items.ensures c.loop-k-test.false)
    c.loop-k.invariant.count c.loop-k.invariant.first

pub returns-clause-offsets : goal.returns-clause-offsets
returns-clause-offsets c = λ b j i places is.
    let blocks = c.args.frame.now.proc.now.blocks in
    let long : length blocks ≤ c.loop-k.k =
    subst (λ l. length l ≤ c.loop-k.k) c.as_slice-block-items.ensures c.loop-k-test.false in
    c.loop-k.invariant.offsets b is.0 (omega (arith, long, slice_get_within blocks b is.0 is.1))
    is.1 j (placed.Op i places) is.2
