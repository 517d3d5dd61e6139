use Rattle.ia_simulation.proofs.Each as each
use Rattle.ia_simulation.proofs.laws.image_follows.Goals as goal

pub returns-clause-carried : goal.returns-clause-carried
returns-clause-carried c = each.carried

pub returns-clause-never_wrong : goal.returns-clause-never_wrong
returns-clause-never_wrong c = each.never_wrong

pub returns-clause-until : goal.returns-clause-until
returns-clause-until c = each.until
