use Rattle.net_form.specs.Tables.{all_tables}
use Rattle.net_form.proofs.NetworkFormed.{formed}
use Rattle.net_laws.proofs.Room.{leaves_room}
use Rattle.ia_sketch.proofs.module.PlacedModule.add_at_home.Goals as goal

pub home-requires-clause-net : goal.home-requires-clause-net
home-requires-clause-net c = formed all_tables c.args.code.now c.in_ok-net.net
    c.in_ok-net.ensures.net c.in_ok-net.ensures.sized

pub home-requires-clause-room : goal.home-requires-clause-room
home-requires-clause-room c = leaves_room c.args.code.now c.in_ok-net.net c.in_ok-net.ensures.net
    c.in_ok-net.ensures.valid c.in_ok-net.ensures.sized
