use Rattle.std.proofs.Common.{ℕ, pos, ◌≡◌, ◌≤◌, ◌<◌, ◌+◌, ◌*◌, length, get_or}
use Rattle.net_price.specs.Tied.{moved_number}
use Rattle.net_price.proofs.ties.step_tie.Given as goal

abbrev pub invariant-loop-slot : goal.invariant-loop-slot
invariant-loop-slot l = record {
  done : (j : ℕ) → j < l.slot → get_or l.ties (13 * l.tie + j) (pos 0) ≡
      moved_number l.s l.left l.entered j (get_or l.initial.ties (13 * l.tie + j) (pos 0));
  ahead : (k : ℕ) → 13 * l.tie + l.slot ≤ k →
      get_or l.ties k (pos 0) ≡ get_or l.initial.ties k (pos 0);
  before : (k : ℕ) → k < 13 * l.tie →
      get_or l.ties k (pos 0) ≡ get_or l.initial.ties k (pos 0);
  long : length l.ties ≡ length l.initial.ties;
}
