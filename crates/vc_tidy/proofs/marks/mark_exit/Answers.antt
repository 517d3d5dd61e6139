use Rattle.std.proofs.Common.{⊎_elim, inl, inr, get_or, take, List, refl, sym, ap, subst, ◌∙◌}
use Rattle.std.proofs.Common.{arith}
use Rattle.std.proofs.lemmas.List.{take_all}
use Rattle.std.proofs.lemmas.Option.{slice_get-get_or}
use Rattle.pra_base.specs.Valid.{Names}
use Rattle.vc_code.specs.declared.row.Role.{Role}
use Rattle.vc_live.specs.Equations.{named_in}
use Rattle.vc_live.proofs.Steps.{reads_named, writes_named}
use Rattle.vc_tidy.specs.Thinned.{IsIn, exit_of}
use Rattle.vc_tidy.proofs.Marking.{in_more, in_none, in_here, live_marks, no_instr}
use Rattle.vc_tidy.proofs.marks.mark_exit.Goals as goal

pub loop-instr-init : goal.loop-instr-init
loop-instr-init c = record
    { count = refl; marks = λ v named. absurd (in_none c.args.code.now v named) }

pub mark_live-requires : goal.mark_live-requires
mark_live-requires c =
    let i = get_or c.args.code.now c.loop-instr.instr-index no_instr in
    rw (c.as_slice.ensures.value, c.loop-instr.invariant.count)
    (λ v named. c.requires.names v
    (in_here c.args.code.now c.loop-instr.instr-index v i
    (slice_get-get_or c.args.code.now c.loop-instr.instr-index no_instr c.loop-instr-test.true)
    (inl (sym (reads_named c.operands-row.result i c.operands-row.ensures v) ∙ named))))

pub mark_live-requires-in-loop-instr : goal.mark_live-requires-in-loop-instr
mark_live-requires-in-loop-instr c =
    let i = get_or c.args.code.now c.loop-instr.instr-index no_instr in
    rw (
      c.as_slice-in-loop-instr.ensures.value,
      c.mark_live.ensures.count,
      c.loop-instr.invariant.count,
    )
    (λ v named. c.requires.names v
    (in_here c.args.code.now c.loop-instr.instr-index v i
    (slice_get-get_or c.args.code.now c.loop-instr.instr-index no_instr c.loop-instr-test.true)
    (inr (sym (writes_named c.operands-row.result i c.operands-row.ensures v) ∙ named))))

pub loop-instr-preserved : goal.loop-instr-preserved
loop-instr-preserved c =
    let i = get_or c.args.code.now c.loop-instr.instr-index no_instr in
    let is = slice_get-get_or c.args.code.now c.loop-instr.instr-index no_instr
    c.loop-instr-test.true in
    record {
      count = c.mark_live-in-loop-instr.ensures.count ∙ c.mark_live.ensures.count
          ∙ c.loop-instr.invariant.count;
      marks = λ v named.
          live_marks _ _ _ _ _ (exit_of c.args.liveness.now c.args.block.0 c.args.code.now v) _ _
          (c.mark_live.ensures.marks v)
          (ap (λ (rs : List Role). named_in rs v) c.as_slice.ensures.value
          ∙ reads_named c.operands-row.result i c.operands-row.ensures v)
          (c.mark_live-in-loop-instr.ensures.marks v)
          (ap (λ (rs : List Role). named_in rs v) c.as_slice-in-loop-instr.ensures.value
          ∙ writes_named c.operands-row.result i c.operands-row.ensures v)
          (⊎_elim
          (λ (before : IsIn (take c.loop-instr.instr-index c.args.code.now) v). inl
          (c.loop-instr.invariant.marks v before))
          (λ (n : Names i v). inr n)
          (in_more c.args.code.now c.loop-instr.instr-index v i is named));
    }

pub returns-clause-marks : goal.returns-clause-marks
returns-clause-marks c = λ v named. c.loop-instr.invariant.marks v
    (subst (λ xs. IsIn xs v)
    (sym (take_all c.loop-instr.instr-index c.args.code.now
    (omega (arith, c.loop-instr-test.false)))) named)
