-- The room that changes of routes work in.
use Rattle.std.specs.Prelude.{◌≡◌}
use Rattle.net_form.specs.declared.net.Net.{Net}
use Rattle.net_form.specs.declared.taken.Spare.{Spare}
use Rattle.net_form.specs.Rooms.{IsRoomOf, zero_prices}
use Rattle.net_path.specs.Desk.{HasSizes}

-- It has an entry for each layer and each memory pair, a place for each layer of each strand, and
-- prices of nothing.
pub record IsSpareOf (net : Net) (spare : Spare) : Type 0 where
  pub taken : IsRoomOf net spare.taken
  pub routes : HasSizes net spare.routes
  pub zero : spare.zero ≡ zero_prices net
