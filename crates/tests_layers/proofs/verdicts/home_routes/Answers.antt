-- The network of valid, sized code is formed, and has room for home routes.
use Rattle.std.proofs.Common.{refl}
use Rattle.net_form.proofs.NetworkFormed.{formed}
use Rattle.net_form.specs.Tables.{all_tables}
use Rattle.net_laws.proofs.Room.{leaves_room}
use Rattle.tests_layers.proofs.verdicts.home_routes.Goals as goal

pub home-requires-clause-net : goal.home-requires-clause-net
home-requires-clause-net c =
    formed all_tables c.args.code.now c.in_ok-net.net c.in_ok-net.ensures
    (c.if-not-is_sized.ensures.0 refl)

pub home-requires-clause-room : goal.home-requires-clause-room
home-requires-clause-room c =
    leaves_room c.args.code.now c.in_ok-net.net c.in_ok-net.ensures
    (c.if-not-is_valid.ensures.0 refl) (c.if-not-is_sized.ensures.0 refl)
