use Rattle.std.proofs.Common.{◌≡◌, ◌<◌, ◌≤ℤ◌, ◌<ℤ◌, ℕ, pos, get_or, take}
use Rattle.net_cost.specs.Models.{weights_of}
use Rattle.net_path.specs.Desk.{IsReservedFor}
use Rattle.al_iter.specs.Room.{IsSpareOf}
use Rattle.al_iter.specs.SettleSums.{IsDraft, sum_of}
use Rattle.al_iter.proofs.settle_place.draft_strands.Given as goal

abbrev pub invariant-loop-at : goal.invariant-loop-at
invariant-loop-at g l = record {
  spare : IsSpareOf l.net l.spare;
  taken : l.spare.taken ≡ l.fn.spare.taken;
  drafts : (k : ℕ) → k < l.at → IsDraft l.net (weights_of l.model) l.fn.spare.taken l.place
      l.spare.routes (get_or l.strands k 0);
  sum : l.total ≡ sum_of l.net (weights_of l.model) l.spare.routes (take l.at l.strands);
  least : pos 0 ≤ℤ l.total;
  less : l.total <ℤ l.price;
  family : l.work.family ≡ l.fn.work.family;
  reserved : IsReservedFor l.net l.work;
}
