use Rattle.std.proofs.Common.{◌<◌, length, get_or, ◌∙◌, arith}
use Rattle.std.proofs.lemmas.Option.{slice_get-get_or, slice_get_within}
use Rattle.vc_tidy.proofs.Marking.{no_instr}
use Rattle.vc_tidy.proofs.Noted.{keeps_on, noted_on}
use Rattle.vc_tidy.proofs.places.note_block.Goals as goal

pub note_instr-requires : goal.note_instr-requires
note_instr-requires c = λ v named.
    let lt : v < length c.args.lists.now.items =
    c.requires.fits c.loop-k.k (get_or c.args.code.now c.loop-k.k no_instr)
    (slice_get-get_or c.args.code.now c.loop-k.k no_instr c.loop-k-test.true) v named in
    omega (arith, lt, c.loop-k.invariant.count)

pub loop-k-preserved : goal.loop-k-preserved
loop-k-preserved c = record {
  count = c.in_ok-note_instr.ensures.count ∙ c.loop-k.invariant.count;
  kept = keeps_on c.args.lists.now.items c.loop-k.lists.items c.note_instr.new.lists.items
      c.loop-k.invariant.kept c.in_ok-note_instr.ensures.kept;
  noted = noted_on c.args.code.now c.args.block c.loop-k.k no_instr c.loop-k.lists.items
      c.note_instr.new.lists.items c.loop-k-test.true c.in_ok-note_instr.ensures.kept
      c.in_ok-note_instr.ensures.noted c.loop-k.invariant.noted;
}

pub returns-clause-noted : goal.returns-clause-noted
returns-clause-noted c = λ k i lt is. c.loop-k.invariant.noted k i
    (omega (arith, slice_get_within c.args.code.now k i is, c.loop-k-test.false)) is
