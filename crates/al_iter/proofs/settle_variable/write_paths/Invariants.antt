use Rattle.std.proofs.Common.{◌≡◌, ℕ, true, false, take}
use Rattle.net_form.specs.Flow.{AreRoutes}
use Rattle.net_dual.specs.Paths.{path_in}
use Rattle.al_iter.specs.SettleState.{among}
use Rattle.al_iter.proofs.settle_variable.write_paths.Given as goal

abbrev pub invariant-loop-at : goal.invariant-loop-at
invariant-loop-at l = record {
  routes : AreRoutes l.net l.routes;
  mine : (s : ℕ) → among (take l.at l.strands) s ≡ true → path_in l.routes s ≡ path_in l.draft s;
  others : (s : ℕ) → among (take l.at l.strands) s ≡ false
      → path_in l.routes s ≡ path_in l.initial.routes s;
}
