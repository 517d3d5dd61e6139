use Rattle.std.proofs.Common.{rules}
use Rattle.pra_tool.proofs.CompilingModes.{longer_input}
use Rattle.pra_tool.proofs.input.read_certificate.Goals as goal

pub returns-in-Err-TooLong-clause-cause : goal.returns-in-Err-TooLong-clause-cause
returns-in-Err-TooLong-clause-cause g c =
    let x = longer_input 16777216 _ _ (c.in-Err-TooLong.ensures.too_long (search rules)) in
    record { bytes = x.0; taken = x.1; wrong = x.2 }
