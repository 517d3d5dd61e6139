use Rattle.std.proofs.Common.{◌+◌, List, slice_index_or, sym, subst}
use Rattle.pra_base.specs.declared.code.VInstr.{VInstr}
use Rattle.pra_base.specs.Code.{kind_of}
use Rattle.vc_checks.specs.declared.fact.Fact.{Fact}
use Rattle.vc_checks.specs.Facts.{CannotFail}
use Rattle.vc_checks.proofs.Walking.{Walked, no_instr, walk_stays, walk_leaves, walk_ends}
use Rattle.vc_checks.proofs.flow.thin_code.Goals.{then-not-cannot_fail+in_ok-pass+in_ok-push}
use Rattle.vc_checks.proofs.flow.thin_code.Goals.{else-not-cannot_fail}
use Rattle.vc_checks.proofs.flow.thin_code.Goals as goal

pub loop-instr-preserved : goal.loop-instr-preserved
loop-instr-preserved c =
    let kind = kind_of c.args.code.now in
    let first = c.args.known.now.items in
    let xs = c.args.instrs.now in
    let i = c.loop-instr.instr-index in
    elim c.if-not-cannot_fail.branch [
      | then-not-cannot_fail+in_ok-pass+in_ok-push w ↦ rw (w.known-is, w.kept-is)
          (subst (λ (kept : List VInstr). Walked kind first xs w.pass.new.known.items
          (i + 1) kept) (sym w.in_ok-push.ensures.items)
          (walk_stays kind first xs c.loop-instr.known.items w.pass.new.known.items i
          c.loop-instr.kept.items c.loop-instr-test.true w.in_ok-pass.ensures
          c.loop-instr.invariant))
      | else-not-cannot_fail w ↦ rw (w.known-is, w.kept-is)
          (walk_leaves kind first xs c.loop-instr.known.items i c.loop-instr.kept.items
          c.loop-instr-test.true
          (subst (λ (facts : List Fact). CannotFail kind facts (slice_index_or xs i no_instr))
          c.as_slice.ensures.value (c.cannot_fail.ensures w.if-not-cannot_fail.false))
          c.loop-instr.invariant)
    ]

pub returns : goal.returns
returns c = walk_ends (kind_of c.args.code.now) c.args.known.now.items c.args.instrs.now
    c.loop-instr.known.items c.loop-instr.instr-index c.loop-instr.kept.items
    c.loop-instr-test.false c.loop-instr.invariant
