use Rattle.vc_build.proofs.Steps.{performs, leaves}
use Rattle.vc_build.proofs.laws.added_code_runs.Goals as goal

pub returns-clause-instruction : goal.returns-clause-instruction
returns-clause-instruction c = λ w id at code i s o stands r. performs w id at code s o stands i r

pub returns-clause-end : goal.returns-clause-end
returns-clause-end c = λ w id at code end s o real stands r. leaves w id at code s o stands end real
    r
