use Rattle.std.proofs.Common.{◌∙◌, List, ap}
use Rattle.vc_code.specs.declared.row.Role.{Role}
use Rattle.vc_live.specs.Equations.{named_in}
use Rattle.vc_live.proofs.Steps.{reads_named}
use Rattle.vc_valid.proofs.instructions.reads.Goals as goal

pub returns : goal.returns
returns c =
    c.is_named.ensures ∙ ap (λ (rs : List Role). named_in rs c.args.var) c.as_slice.ensures.value
    ∙ reads_named c.operands-row.result c.args.instr.now c.operands-row.ensures c.args.var
