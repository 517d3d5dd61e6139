use Rattle.std.proofs.Common.{◌≡◌, ◌≤ℤ◌, ◌<ℤ◌, pos}
use Rattle.net_cost.specs.Models.{weights_of}
use Rattle.net_path.specs.Desk.{IsReservedFor}
use Rattle.al_iter.specs.Room.{IsSpareOf}
use Rattle.al_iter.proofs.SettleUsers.{PayFirst}
use Rattle.al_iter.proofs.settle_place.users_pay.Given as goal

abbrev pub invariant-loop-at : goal.invariant-loop-at
invariant-loop-at g l = record {
  spare : IsSpareOf l.net l.spare;
  taken : l.spare.taken ≡ l.initial.spare.taken;
  pay : PayFirst l.net (weights_of l.model) l.initial.spare.taken l.strands l.place l.at l.total;
  least : pos 0 ≤ℤ l.total;
  less : l.total <ℤ l.price;
  family : l.work.family ≡ l.initial.work.family;
  reserved : IsReservedFor l.net l.work;
}
