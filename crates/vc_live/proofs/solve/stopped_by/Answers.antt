use Rattle.std.proofs.Common.{length, get_or, ap, sym, refl, ◌∙◌, arith}
use Rattle.std.proofs.lemmas.List.{take_all, get_or_default}
use Rattle.vc_live.specs.Sets.{contains}
use Rattle.vc_live.specs.Spreading.{stops_at}
use Rattle.vc_live.proofs.RowLemmas.{fits_at}
use Rattle.vc_live.proofs.SizedLemmas.{no_instr}
use Rattle.vc_live.proofs.Made.{stops_first, stops_more}
use Rattle.vc_live.proofs.solve.stopped_by.Goals as goal

pub loop-instr-init : goal.loop-instr-init
loop-instr-init c = rw c.in_ok-set.ensures (record {
  words = refl;
  members = λ v. stops_first (contains c.args.constants.now) c.args.code.now v;
})

pub mark_writes-requires : goal.mark_writes-requires
mark_writes-requires c = fits_at (length c.args.constants.now) _ c.loop-instr.instr-index
    c.args.code.now (get_or c.args.code.now c.loop-instr.instr-index no_instr) c.requires
    (sym (get_or_default c.args.code.now c.loop-instr.instr-index _ no_instr (omega arith)))
    (omega arith)
    c.loop-instr.invariant.words

pub loop-instr-preserved : goal.loop-instr-preserved
loop-instr-preserved c = record {
  words = c.mark_writes.ensures.words ∙ c.loop-instr.invariant.words;
  members = λ v. stops_more (contains c.args.constants.now) c.args.code.now
      c.loop-instr.instr-index (get_or c.args.code.now c.loop-instr.instr-index no_instr) _ _ v
      (omega arith) (sym (get_or_default c.args.code.now c.loop-instr.instr-index _ no_instr
      (omega arith)))
      (c.loop-instr.invariant.members v) (c.mark_writes.ensures.members v);
}

pub returns-clause-members : goal.returns-clause-members
returns-clause-members c = λ v. c.loop-instr.invariant.members v
    ∙ ap (λ is. stops_at (contains c.args.constants.now) is v)
    (take_all c.loop-instr.instr-index c.args.code.now (omega arith))
