use Rattle.std.proofs.Common.{◌≡◌, length}
use Rattle.net_path.specs.Choices.{AreStartCosts}
use Rattle.net_path.specs.Ways.{start_price}
use Rattle.net_path.proofs.path.start_costs.Given as goal

abbrev pub invariant-loop-number : goal.invariant-loop-number
invariant-loop-number l = record {
  long : length l.costs ≡ 14;
  starts : AreStartCosts (start_price l.ways l.constant) l.row.costs l.number l.costs;
}
