use Rattle.ia_simulation.proofs.Listed as listed
use Rattle.ia_simulation.proofs.laws.listed_code_follows.Goals as goal

pub returns-clause-carried : goal.returns-clause-carried
returns-clause-carried c = listed.carried

pub returns-clause-never_wrong : goal.returns-clause-never_wrong
returns-clause-never_wrong c = listed.never_wrong

pub returns-clause-agrees : goal.returns-clause-agrees
returns-clause-agrees c = listed.agrees

pub returns-clause-until : goal.returns-clause-until
returns-clause-until c = listed.until
