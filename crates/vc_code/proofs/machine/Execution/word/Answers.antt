use Rattle.std.proofs.Common.{◌∙◌, ap}
use Rattle.vc_code.specs.Machine.{word_at}
use Rattle.vc_code.specs.Selected.{shape}
use Rattle.vc_code.proofs.WrittenCalls.{object-aggregates, object-cell}
use Rattle.vc_code.proofs.machine.Execution.word.Goals as goal

pub returns-in_ok-has-in-Aggregates : goal.returns-in_ok-has-in-Aggregates
returns-in_ok-has-in-Aggregates c =
    rw c.in-Aggregates.is (
    c.aggregate.ensures
    ∙ ap (λ ws. word_at ws c.args.offset)
    (object-aggregates (shape c.args.program.now.code.now.procs c.args.program.now.frames.now)
    c.args.self.now c.in-Aggregates.calls c.in-Aggregates.sum c.in_ok-has-in-Aggregates.has
    c.in_ok-has-in-Aggregates.ensures))

pub returns-in_ok-has-in-Cell : goal.returns-in_ok-has-in-Cell
returns-in_ok-has-in-Cell c =
    rw c.in-Cell.is (
    c.argument.ensures
    ∙ ap (λ ws. word_at ws c.args.offset)
    (object-cell (shape c.args.program.now.code.now.procs c.args.program.now.frames.now)
    c.args.self.now c.in-Cell.calls c.in-Cell.below c.in-Cell.argument c.in_ok-has-in-Cell.has
    c.in_ok-has-in-Cell.ensures))
