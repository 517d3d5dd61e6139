use Rattle.std.proofs.Common.{ℕ, ◌≡◌, ◌≤◌, length}
use Rattle.net_build.specs.Labels.{parent, GoDown, AreLabels}
use Rattle.net_build.proofs.labels.root.Given as goal

abbrev pub invariant-loop-above : goal.invariant-loop-above
invariant-loop-above l = record {
  at : l.at ≤ l.end;
  above : l.above ≡ parent l.parents l.at;
  count : length l.parents ≡ length l.initial.parents;
  down : GoDown l.parents;
  labels : (label : ℕ → ℕ) → AreLabels l.initial.parents label → AreLabels l.parents label ×
      (label l.at ≡ label l.end);
}

abbrev pub decreases-loop-above : goal.decreases-loop-above
decreases-loop-above l = l.at
