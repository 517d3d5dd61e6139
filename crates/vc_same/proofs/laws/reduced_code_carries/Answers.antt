use Rattle.vc_same.specs.SameRuns.{with_procs}
use Rattle.vc_same.proofs.Carried as carried
use Rattle.vc_same.proofs.laws.reduced_code_carries.Goals as goal

pub returns-clause-carried : goal.returns-clause-carried
returns-clause-carried c = λ module_ news to frames input is well. carried.reduced_carries module_
    news to frames input is well

pub returns-clause-runs_well : goal.returns-clause-runs_well
returns-clause-runs_well c = λ module_ news to frames input is well. carried.carried_well module_
    (with_procs module_ news) frames input
    (carried.reduced_carries module_ news to frames input is well) well
