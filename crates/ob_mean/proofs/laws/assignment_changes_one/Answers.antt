use Rattle.ob_mean.proofs.Stores.{read-assigned, read-assigned_other}
use Rattle.ob_mean.proofs.laws.assignment_changes_one.Goals as goal

pub returns-clause-there : goal.returns-clause-there
returns-clause-there c = read-assigned

pub returns-clause-others : goal.returns-clause-others
returns-clause-others c = read-assigned_other
