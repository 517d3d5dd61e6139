use Rattle.net_laws.proofs.Room.{leaves_room}
use Rattle.net_laws.proofs.laws.networks_have_room.Goals as goal

pub returns : goal.returns
returns c = leaves_room
