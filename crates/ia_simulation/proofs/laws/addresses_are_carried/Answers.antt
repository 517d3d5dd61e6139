use Rattle.ia_simulation.proofs.Whole as whole
use Rattle.ia_simulation.proofs.laws.addresses_are_carried.Goals as goal

pub returns-clause-locate : goal.returns-clause-locate
returns-clause-locate c = whole.locates

pub returns-clause-load : goal.returns-clause-load
returns-clause-load c = whole.loads

pub returns-clause-store : goal.returns-clause-store
returns-clause-store c = whole.stores
