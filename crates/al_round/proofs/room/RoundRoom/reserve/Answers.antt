use Rattle.std.proofs.Common.{sym, subst}
use Rattle.net_dual.specs.Priced.{AreInRange}
use Rattle.al_iter.specs.Room.{IsSpareOf}
use Rattle.al_round.proofs.EmptyRoom.{room_of}
use Rattle.al_round.proofs.room.RoundRoom.reserve.Goals as goal

pub returns : goal.returns
returns g c =
    let net = c.args.net.now in
    record {
      next = subst (AreInRange net) (sym c.in_ok-copy_prices.ensures) c.requires.prices;
      work = c.in_ok-reserve.ensures;
      spare = subst (IsSpareOf net) (sym c.in_ok-empty.ensures) (room_of net);
    }
