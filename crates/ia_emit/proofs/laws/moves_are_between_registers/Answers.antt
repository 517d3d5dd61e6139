use Rattle.std.proofs.Common.{refl}
use Rattle.ia_emit.proofs.Exchanged.{exchanges_assign, not_in_code, not_in_bytes}
use Rattle.ia_emit.proofs.laws.moves_are_between_registers.Goals as goal

pub returns-clause-nothing : goal.returns-clause-nothing
returns-clause-nothing c = exchanges_assign

pub returns-clause-rotation : goal.returns-clause-rotation
returns-clause-rotation c = λ p. refl

pub returns-clause-placed : goal.returns-clause-placed
returns-clause-placed c = not_in_code

pub returns-clause-carried : goal.returns-clause-carried
returns-clause-carried c = not_in_bytes
