use Rattle.std.proofs.Common.{arith}
use Rattle.cert_form.proofs.CodesHeld.{code_found}
use Rattle.cert_form.proofs.code_reading.CodeFound.whole.Goals as goal

pub returns : goal.returns
returns c = λ os h.
    code_found c.args.self os h c.args.number (omega arith) c.in_ok-aggregates.field-0
    c.in_ok-args.field-0 c.in_ok-blocks.field-0 c.in_ok-name.name c.in_ok-vars.field-0
    c.in_ok-aggregates.was c.in_ok-args.was c.in_ok-blocks.was c.in_ok-name.was c.in_ok-vars.was
