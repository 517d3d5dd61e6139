use Rattle.std.proofs.Common.{◌≡◌}
use Rattle.net_cost.specs.Models.{weights_of}
use Rattle.net_path.specs.Desk.{IsReservedFor}
use Rattle.al_iter.specs.LaidSoFar.{IsLaidSoFar, routes_of}
use Rattle.al_iter.proofs.laying.lay_in.Given as goal

abbrev pub invariant-loop-at : goal.invariant-loop-at
invariant-loop-at g l = record {
  laid : IsLaidSoFar l.net (weights_of l.model) l.prices l.plan l.order l.at
      (routes_of l.paths) l.taken;
  family : l.work.family ≡ l.fn.work.family;
  reserved : IsReservedFor l.net l.work;
}
