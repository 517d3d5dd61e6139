use Rattle.std.proofs.Common.{◌/◌, ◌∙◌, ap, sym, Some}
use Rattle.vc_code.specs.declared.value.Value.TheVariants.{Num}
use Rattle.vc_code.specs.Selected.{shape}
use Rattle.vc_run.specs.Procs.{procs_of}
use Rattle.vc_run.specs.Stands.{changed, whole_of}
use Rattle.vc_run.proofs.WrittenCalls.{with_object-aggregates, with_object-cell, as_it_is}
use Rattle.vc_run.proofs.machine.Execution.write.Goals as goal

pub returns-then-branch : goal.returns-then-branch
returns-then-branch c =
    let m = c.args.self.now in
    let procs = procs_of c.args.program.now.codes.now in
    let has = sym c.if-branch.true ∙ c.in_ok-has_sum-in-Aggregates.ensures procs in
    rw c.in-Aggregates.is (
    c.set_aggregate.ensures
    ∙ ap (changed (whole_of m)) (sym (with_object-aggregates (shape procs m.below.frames) m
    c.in-Aggregates.calls c.in-Aggregates.sum (c.args.offset / 4) (Some (Num c.args.n)) _ has)))

pub returns-else-branch : goal.returns-else-branch
returns-else-branch c =
    let m = c.args.self.now in
    let procs = procs_of c.args.program.now.codes.now in
    let sizes = shape procs m.below.frames in
    let has = sym c.if-branch.false ∙ c.in_ok-has_sum-in-Aggregates.ensures procs in
    rw c.in-Aggregates.is (ap (changed (whole_of m)) (sym
    (with_object-aggregates sizes m c.in-Aggregates.calls c.in-Aggregates.sum
    (c.args.offset / 4) (Some (Num c.args.n)) _ has ∙ as_it_is sizes m)))

pub returns-then-has_below : goal.returns-then-has_below
returns-then-has_below c =
    let m = c.args.self.now in
    let procs = procs_of c.args.program.now.codes.now in
    let has = sym c.if-has_below.true ∙ c.has_below.ensures procs in
    rw c.in-Cell.is (
    c.set_argument.ensures
    ∙ ap (changed (whole_of m)) (sym (with_object-cell (shape procs m.below.frames) m
    c.in-Cell.calls c.in-Cell.below c.in-Cell.argument (c.args.offset / 4)
    (Some (Num c.args.n)) _ has)))

pub returns-else-has_below : goal.returns-else-has_below
returns-else-has_below c =
    let m = c.args.self.now in
    let procs = procs_of c.args.program.now.codes.now in
    let sizes = shape procs m.below.frames in
    let has = sym c.if-has_below.false ∙ c.has_below.ensures procs in
    rw c.in-Cell.is (ap (changed (whole_of m)) (sym (with_object-cell sizes m c.in-Cell.calls
    c.in-Cell.below c.in-Cell.argument (c.args.offset / 4) (Some (Num c.args.n)) _ has
    ∙ as_it_is sizes m)))
