use Rattle.std.proofs.Common.{◌≡◌}
use Rattle.net_cost.specs.Models.{weights_of}
use Rattle.net_path.specs.Desk.{IsReservedFor}
use Rattle.al_edge.specs.Planned.{ArePlanned}
use Rattle.al_edge.proofs.planning.plan_in.Given as goal

abbrev pub invariant-loop-group : goal.invariant-loop-group
invariant-loop-group g l = record {
  reserved : IsReservedFor l.net l.work;
  family : l.work.family ≡ l.fn.work.family;
  planned : ArePlanned l.net (weights_of l.model) l.prices l.used l.group l.places;
}
