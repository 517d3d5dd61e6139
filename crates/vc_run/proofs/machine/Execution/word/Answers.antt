use Rattle.std.proofs.Common.{◌∙◌, ap}
use Rattle.vc_code.specs.Machine.{word_at}
use Rattle.vc_code.specs.Selected.{shape}
use Rattle.vc_run.specs.Procs.{procs_of}
use Rattle.vc_run.proofs.WrittenCalls.{object-aggregates, object-cell}
use Rattle.vc_run.proofs.machine.Execution.word.Goals as goal

pub returns-in_ok-has-in-Aggregates : goal.returns-in_ok-has-in-Aggregates
returns-in_ok-has-in-Aggregates c =
    let procs = procs_of c.args.program.now.codes.now in
    rw c.in-Aggregates.is (
    c.aggregate.ensures
    ∙ ap (λ ws. word_at ws c.args.offset)
    (object-aggregates (shape procs c.args.self.now.below.frames)
    c.args.self.now c.in-Aggregates.calls c.in-Aggregates.sum c.in_ok-has-in-Aggregates.has
    (c.in_ok-has-in-Aggregates.ensures procs)))

pub returns-in-Cell : goal.returns-in-Cell
returns-in-Cell c =
    let procs = procs_of c.args.program.now.codes.now in
    rw c.in-Cell.is (
    c.argument.ensures
    ∙ ap (λ ws. word_at ws c.args.offset)
    (object-cell (shape procs c.args.self.now.below.frames)
    c.args.self.now c.in-Cell.calls c.in-Cell.below c.in-Cell.argument c.has_below-has.result
    (c.has_below-has.ensures procs)))
