use Rattle.vc_proc.proofs.Together.{all_replaced}
use Rattle.vc_proc.proofs.laws.procedures_are_replaced_together.Goals as goal

pub returns-clause-carried : goal.returns-clause-carried
returns-clause-carried c = λ module_ news frames input long same well.
    (all_replaced module_ news frames input long same well).0

pub returns-clause-runs_well : goal.returns-clause-runs_well
returns-clause-runs_well c = λ module_ news frames input long same well.
    (all_replaced module_ news frames input long same well).1
