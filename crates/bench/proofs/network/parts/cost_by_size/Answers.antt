-- The network of sized code is formed.
use Rattle.net_form.proofs.NetworkFormed.{formed}
use Rattle.net_form.specs.Tables.{all_tables}
use Rattle.bench.proofs.network.parts.cost_by_size.Goals as goal

pub cost-requires-clause-net : goal.cost-requires-clause-net
cost-requires-clause-net c =
    formed all_tables c.args.code.now c.args.net.now c.requires.net c.requires.sized
