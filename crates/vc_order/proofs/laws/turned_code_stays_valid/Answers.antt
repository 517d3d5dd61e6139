use Rattle.pra_base.specs.Valid.{TakesArgs}
use Rattle.vc_order.proofs.Turning as turning
use Rattle.vc_order.proofs.laws.turned_code_stays_valid.Goals as goal

pub returns-clause-valid : goal.returns-clause-valid
returns-clause-valid c = λ old new is. turning.valid_too old new is

pub returns-clause-pushes : goal.returns-clause-pushes
returns-clause-pushes c = λ counts old new is. turning.pushes_too old new is (TakesArgs counts)

pub returns-clause-instructions : goal.returns-clause-instructions
returns-clause-instructions c = λ old new is. turning.instructions_too old new is

pub returns-clause-depths : goal.returns-clause-depths
returns-clause-depths c = λ old new is. turning.depths_too old new is
