-- The network of valid, sized code is formed, and has room for home routes.
use Rattle.net_form.proofs.NetworkFormed.{formed}
use Rattle.net_form.specs.Tables.{all_tables}
use Rattle.net_laws.proofs.Room.{leaves_room}
use Rattle.bench.proofs.network.parts.home_routes.Goals as goal

pub home-requires-clause-net : goal.home-requires-clause-net
home-requires-clause-net c =
    formed all_tables c.args.code.now c.args.net.now c.requires.net c.requires.sized

pub home-requires-clause-room : goal.home-requires-clause-room
home-requires-clause-room c =
    leaves_room c.args.code.now c.args.net.now c.requires.net c.requires.valid c.requires.sized
