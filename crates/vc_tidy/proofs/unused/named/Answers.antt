use Rattle.std.proofs.Common.{◌≡◌, true, ⊎_elim, ◌∙◌, arith}
use Rattle.vc_tidy.specs.Thinned.{is_marked, IsIn}
use Rattle.vc_tidy.proofs.Meeting.{in_block}
use Rattle.vc_tidy.proofs.Thin.{has_marks}
use Rattle.vc_tidy.proofs.Numbered.{marked_block, named_block}
use Rattle.vc_tidy.proofs.unused.named.Goals as goal

pub mark_named-requires : goal.mark_named-requires
mark_named-requires c = rw c.as_slice.ensures
    (has_marks c.args.code.now c.loop-b.marks.items c.loop-b.b c.index.result.now c.requires
    c.loop-b.invariant.count (omega (arith, c.loop-b-test.true, c.len-b-end.ensures))
    c.index.ensures)

pub loop-b-preserved : goal.loop-b-preserved
loop-b-preserved c = record {
  count = c.mark_named.ensures.count ∙ c.loop-b.invariant.count;
  marked = marked_block c.args.code.now c.loop-b.b c.index.result.now c.as_slice.result.now
      c.loop-b.marks.items c.mark_named.new.marks.items
      (omega (arith, c.loop-b-test.true, c.len-b-end.ensures)) c.index.ensures c.as_slice.ensures
      c.mark_named.ensures.kept c.mark_named.ensures.marked c.loop-b.invariant.marked;
  named = λ v marked.
      ⊎_elim
      (λ (was : is_marked c.loop-b.marks.items v ≡ true). c.loop-b.invariant.named v was)
      (λ (is_in : IsIn c.as_slice.result.now v). named_block c.args.code.now c.loop-b.b v
      c.index.result.now c.as_slice.result.now
      (omega (arith, c.loop-b-test.true, c.len-b-end.ensures)) c.index.ensures
      c.as_slice.ensures is_in)
      (c.mark_named.ensures.named v marked);
}

pub returns : goal.returns
returns c = record {
  count = c.loop-b.invariant.count;
  marked = λ v m. c.loop-b.invariant.marked m.0 m.1 v m.2
      (omega (
        arith,
        in_block c.args.code.now m.0 m.1 m.2 m.3,
        c.loop-b-test.false,
        c.len-b-end.ensures,
      )) m.3 m.4;
  named = c.loop-b.invariant.named;
}
