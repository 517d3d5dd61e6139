-- The network of valid, sized code is built.
use Rattle.net_laws.proofs.Built.{built}
use Rattle.bench.proofs.network.parts.from_spare.Goals as goal

pub from_reserve-requires-clause-net : goal.from_reserve-requires-clause-net
from_reserve-requires-clause-net c =
    built c.args.code.now c.args.net.now c.requires.net c.requires.valid c.requires.sized
