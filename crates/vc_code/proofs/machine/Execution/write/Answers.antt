use Rattle.std.proofs.Common.{◌/◌, ◌∙◌, ap, sym, reverse, Some}
use Rattle.vc_code.specs.declared.value.Value.TheVariants.{Num}
use Rattle.vc_code.specs.Machine.{with_calls}
use Rattle.vc_code.specs.Selected.{shape}
use Rattle.vc_code.specs.Stands.{state_of}
use Rattle.vc_code.proofs.WrittenCalls.{with_object-aggregates, with_object-cell, as_it_is}
use Rattle.vc_code.proofs.machine.Execution.write.Goals as goal

pub returns-then-branch : goal.returns-then-branch
returns-then-branch c =
    let m = c.args.self.now in
    let has = sym c.if-branch.true ∙ c.in_ok-has_sum-in-Aggregates.ensures in
    rw c.in-Aggregates.is (
    c.set_aggregate.ensures.rest
    ∙ ap (λ cs. with_calls (state_of m) (reverse cs)) c.set_aggregate.ensures.calls
    ∙ sym (with_object-aggregates
    (shape c.args.program.now.code.now.procs c.args.program.now.frames.now) m
    c.in-Aggregates.calls c.in-Aggregates.sum (c.args.offset / 4) (Some (Num c.args.n)) _ has))

pub returns-else-branch : goal.returns-else-branch
returns-else-branch c =
    let m = c.args.self.now in
    let has = sym c.if-branch.false ∙ c.in_ok-has_sum-in-Aggregates.ensures in
    let sizes = shape c.args.program.now.code.now.procs c.args.program.now.frames.now in
    rw c.in-Aggregates.is (sym
    (with_object-aggregates sizes m c.in-Aggregates.calls c.in-Aggregates.sum
    (c.args.offset / 4) (Some (Num c.args.n)) _ has ∙ as_it_is sizes m))

pub returns-then-branch-2 : goal.returns-then-branch-2
returns-then-branch-2 c =
    let m = c.args.self.now in
    let has = sym c.if-branch-2.true ∙ c.in_ok-has_below-in-Cell.ensures in
    rw c.in-Cell.is (
    c.set_argument.ensures.rest
    ∙ ap (λ cs. with_calls (state_of m) (reverse cs)) c.set_argument.ensures.calls
    ∙ sym (with_object-cell (shape c.args.program.now.code.now.procs c.args.program.now.frames.now)
    m c.in-Cell.calls c.in-Cell.below c.in-Cell.argument (c.args.offset / 4)
    (Some (Num c.args.n)) _ has))

pub returns-else-branch-2 : goal.returns-else-branch-2
returns-else-branch-2 c =
    let m = c.args.self.now in
    let has = sym c.if-branch-2.false ∙ c.in_ok-has_below-in-Cell.ensures in
    let sizes = shape c.args.program.now.code.now.procs c.args.program.now.frames.now in
    rw c.in-Cell.is (sym (with_object-cell sizes m c.in-Cell.calls c.in-Cell.below
    c.in-Cell.argument (c.args.offset / 4) (Some (Num c.args.n)) _ has ∙ as_it_is sizes m))
