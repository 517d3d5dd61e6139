use Rattle.net_cost.specs.Models.{weights_of}
use Rattle.net_path.proofs.search.search_spread.Goals as goal

pub returns-in-Some-clause-found : goal.returns-in-Some-clause-found
returns-in-Some-clause-found g c = c.in-Some.ensures.least.least (weights_of c.args.model.now)
    c.args.taken.now c.requires.kept.valid
