use Rattle.std.proofs.Common.{ap, sym, ◌∙◌}
use Rattle.ia_emit.specs.Emission.{emit_op}
use Rattle.ia_emit.proofs.emission.emit_op.Goals as goal

pub returns-in-CmpSet-clause-items : goal.returns-in-CmpSet-clause-items
returns-in-CmpSet-clause-items c = c.set_if.ensures
    ∙ ap (λ i. emit_op c.args.frame.now.proc.now i c.args.places.now) (sym c.in-CmpSet.is)
