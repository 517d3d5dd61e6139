use Rattle.std.proofs.Common.{◌≡◌, ℕ, ◌≤◌, length, drop}
use Rattle.vc_live.specs.Sets.{contains}
use Rattle.vc_live.specs.Equations.{through}
use Rattle.vc_live.proofs.equations.go_back.Given as goal

abbrev pub invariant-loop-left : goal.invariant-loop-left
invariant-loop-left l = record {
  within : l.left ≤ length l.code;
  words : length l.set ≡ length l.initial.set;
  members : (v : ℕ) → contains l.set v ≡ through (contains l.constants) (drop l.left l.code)
      (contains l.initial.set) v;
}

abbrev pub decreases-loop-left : goal.decreases-loop-left
decreases-loop-left l = l.left
