use Rattle.std.proofs.Common.{◌≡◌, false, Some, get_or, sym, arith}
use Rattle.std.proofs.lemmas.List.Elements.{All-more, Contains-get_or}
use Rattle.pra_base.specs.Code.{instr_at}
use Rattle.vc_tidy.specs.Joined.{is_met}
use Rattle.vc_tidy.proofs.Marking.{no_instr}
use Rattle.vc_tidy.proofs.Meeting.{found_at, none_there, none_met, met_meets, row_names}
use Rattle.vc_tidy.proofs.meets.meets_at.Goals as goal

pub returns-then-not-is_in_row-clause-none : goal.returns-then-not-is_in_row-clause-none
returns-then-not-is_in_row-clause-none c = λ e k d lt m.
    let i = get_or c.as_slice-instrs.result.now c.args.place.index no_instr in
    none_there c.args.code.now c.args.place.block c.args.place.index c.args.v _ i
    c.operands-row.result c.operands-row.ensures
    (found_at c.args.code.now c.args.place.block c.args.place.index c.index.result.now
    c.as_slice-instrs.result.now no_instr (omega arith) c.index.ensures
    c.as_slice-instrs.ensures (omega arith))
    (sym c.if-not-is_in_row.ensures) m

pub returns-then-is_met-clause-some : goal.returns-then-is_met-clause-some
returns-then-is_met-clause-some c = λ e.
    let i = get_or c.as_slice-instrs.result.now c.args.place.index no_instr in
    let w = get_or c.args.others.now c.loop-w.w-index 0 in
    let is : instr_at c.args.code.now c.args.place.block c.args.place.index ≡ Some i =
    found_at c.args.code.now c.args.place.block c.args.place.index c.index.result.now
    c.as_slice-instrs.result.now no_instr (omega arith) c.index.ensures
    c.as_slice-instrs.ensures (omega arith) in (
      w,
      Contains-get_or c.args.others.now c.loop-w.w-index 0 c.loop-w-test.true,
      (
        c.args.place.block,
        c.args.place.index,
        met_meets c.args.code.now c.args.liveness.now c.requires.known c.operands-row.result i
            c.args.place.block c.args.place.index c.args.v w c.operands-row.ensures is
            (c.requires.others c.loop-w.w-index 0 c.loop-w-test.true)
            (row_names c.operands-row.result i c.args.v c.operands-row.ensures
            (sym c.if-not-is_in_row.ensures)) (sym c.if-is_met.ensures),
      ),
    )

pub loop-w-preserved : goal.loop-w-preserved
loop-w-preserved c =
    let i = get_or c.as_slice-instrs.result.now c.args.place.index no_instr in
    All-more (λ w. is_met c.args.liveness.now i c.operands-row.result c.args.place.block
    c.args.place.index c.args.v w ≡ false) c.args.others.now c.loop-w.w-index 0
    c.loop-w-test.true c.loop-w.invariant (sym c.if-is_met.ensures)

pub returns-clause-none : goal.returns-clause-none
returns-clause-none c = λ e.
    let i = get_or c.as_slice-instrs.result.now c.args.place.index no_instr in
    none_met c.args.code.now c.args.liveness.now c.operands-row.result i c.args.place.block
    c.args.place.index c.args.v c.loop-w.w-index c.args.others.now c.requires.known
    c.operands-row.ensures
    (found_at c.args.code.now c.args.place.block c.args.place.index c.index.result.now
    c.as_slice-instrs.result.now no_instr (omega arith) c.index.ensures
    c.as_slice-instrs.ensures (omega arith))
    c.requires.others (omega arith) c.loop-w.invariant
