-- The network of sized code is formed.
use Rattle.net_form.proofs.NetworkFormed.{formed}
use Rattle.net_form.specs.Tables.{all_tables}
use Rattle.bench.proofs.network.parts.admit.Goals as goal

pub admitted-requires-clause-net : goal.admitted-requires-clause-net
admitted-requires-clause-net c =
    formed all_tables c.args.code.now c.args.net.now c.requires.net c.requires.sized
