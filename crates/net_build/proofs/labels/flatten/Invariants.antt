use Rattle.std.proofs.Common.{ℕ, ◌≡◌, ◌<◌, ◌≤◌, length}
use Rattle.net_build.specs.Labels.{parent, AreLabels}
use Rattle.net_build.proofs.labels.flatten.Given as goal

abbrev pub invariant-loop-end : goal.invariant-loop-end
invariant-loop-end l = record {
  count : length l.parents ≡ length l.initial.parents;
  later : (e : ℕ) → l.end ≤ e → parent l.parents e ≡ parent l.initial.parents e;
  done : (label : ℕ → ℕ) → AreLabels l.initial.parents label → (e : ℕ) → e < l.end →
      parent l.parents e ≡ label e;
}
