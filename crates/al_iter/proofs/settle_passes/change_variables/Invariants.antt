use Rattle.std.proofs.Common.{◌≡◌, ◌<◌, ◌≤◌, ℕ, IsTrue, IsFalse}
use Rattle.pra_base.specs.declared.ids.Place.{Place}
use Rattle.net_cost.specs.Models.{weights_of}
use Rattle.net_form.specs.Cost.{cost_of}
use Rattle.net_form.specs.Flow.{flow}
use Rattle.net_path.specs.Desk.{IsReservedFor}
use Rattle.al_laws.specs.Settled.{NoneCheaperAt}
use Rattle.al_iter.specs.SettleState.{AreMarkedRoutes}
use Rattle.al_iter.proofs.settle_passes.change_variables.Given as goal

abbrev pub invariant-loop-var : goal.invariant-loop-var
invariant-loop-var g l = record {
  state : AreMarkedRoutes l.net l.spare l.routes;
  most : cost_of l.net (weights_of l.model) (flow l.net l.routes)
      ≤ cost_of l.net (weights_of l.model) (flow l.net l.initial.routes);
  lower : IsTrue l.changed → cost_of l.net (weights_of l.model) (flow l.net l.routes)
      < cost_of l.net (weights_of l.model) (flow l.net l.initial.routes);
  same : IsFalse l.changed → l.routes ≡ l.initial.routes;
  settled : IsFalse l.changed → (v : ℕ) → v < l.var
      → (p : Place) → NoneCheaperAt l.net (weights_of l.model) l.routes v p;
  family : l.work.family ≡ l.initial.work.family;
  reserved : IsReservedFor l.net l.work;
}
