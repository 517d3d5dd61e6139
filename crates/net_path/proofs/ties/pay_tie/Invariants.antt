use Rattle.std.proofs.Common.{ℕ, ◌≡◌, ◌<◌, ◌≤◌, length}
use Rattle.pra_base.specs.declared.ids.Place.{Place}
use Rattle.pra_base.specs.Places.{number}
use Rattle.net_path.specs.Ties.{IsMore, tie_pay}
use Rattle.net_path.specs.Ways.{at}
use Rattle.net_path.proofs.ties.pay_tie.Given as goal

abbrev pub invariant-loop-p : goal.invariant-loop-p
invariant-loop-p l = record {
  long : length l.row.costs ≡ 16;
  more : (k : ℕ) → k < l.p → (place : Place) → number place ≡ k →
      IsMore (at l.initial.row.costs k) (tie_pay l.prices l.leaves l.tie place)
      (at l.row.costs k);
  left : (k : ℕ) → l.p ≤ k → at l.row.costs k ≡ at l.initial.row.costs k;
}
