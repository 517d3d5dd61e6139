use Rattle.std.proofs.Common.{◌≡◌, ◌≤◌}
use Rattle.net_cost.specs.Models.{weights_of}
use Rattle.net_form.specs.Cost.{cost_of}
use Rattle.net_form.specs.Flow.{flow}
use Rattle.net_path.specs.Desk.{IsReservedFor}
use Rattle.al_iter.specs.SettleState.{AreMarkedRoutes}
use Rattle.al_iter.proofs.settle_passes.settle.Given as goal

abbrev pub invariant-loop : goal.invariant-loop
invariant-loop g l = record {
  state : AreMarkedRoutes l.net l.spare l.routes;
  cost : cost_of l.net (weights_of l.model) (flow l.net l.routes)
      ≤ cost_of l.net (weights_of l.model) (flow l.net l.initial.routes);
  family : l.work.family ≡ l.initial.work.family;
  reserved : IsReservedFor l.net l.work;
}

abbrev pub decreases-loop : goal.decreases-loop
decreases-loop g l = cost_of l.net (weights_of l.model) (flow l.net l.routes)
