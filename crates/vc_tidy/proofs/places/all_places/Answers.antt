use Rattle.std.proofs.Common.{◌∙◌, arith}
use Rattle.std.proofs.lemmas.Option.{slice_get_within}
use Rattle.vc_tidy.proofs.Meeting.{in_block}
use Rattle.vc_tidy.proofs.Noted.{fits_block, noted_block}
use Rattle.vc_tidy.proofs.places.all_places.Goals as goal

pub note_block-requires-clause-fits : goal.note_block-requires-clause-fits
note_block-requires-clause-fits c = fits_block c.args.code.now c.loop-b.lists.items c.loop-b.b
    c.index.result.now c.as_slice.result.now c.requires c.loop-b.invariant.count
    (omega (arith, c.loop-b-test.true, c.len-b-end.ensures)) c.index.ensures c.as_slice.ensures

pub loop-b-preserved : goal.loop-b-preserved
loop-b-preserved c = record {
  count = c.in_ok-note_block.ensures.count ∙ c.loop-b.invariant.count;
  noted = noted_block c.args.code.now c.loop-b.b c.index.result.now c.as_slice.result.now
      c.loop-b.lists.items c.note_block.new.lists.items
      (omega (arith, c.loop-b-test.true, c.len-b-end.ensures)) c.index.ensures c.as_slice.ensures
      c.in_ok-note_block.ensures.kept
      (λ k i is. c.in_ok-note_block.ensures.noted k i
      (slice_get_within c.as_slice.result.now k i is) is) c.loop-b.invariant.noted;
}

pub returns : goal.returns
returns c = λ b k i is. c.loop-b.invariant.noted b k i
    (omega (arith, in_block c.args.code.now b k i is, c.loop-b-test.false, c.len-b-end.ensures)) is
