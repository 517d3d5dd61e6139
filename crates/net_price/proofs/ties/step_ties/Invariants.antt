use Rattle.std.proofs.Common.{ℕ, pos, ◌≡◌, ◌≤◌, ◌<◌, ◌*◌, length, get_or}
use Rattle.net_form.specs.Flow.{flow}
use Rattle.net_price.specs.Tied.{next_number}
use Rattle.net_price.proofs.ties.step_ties.Given as goal

abbrev pub invariant-loop-tie : goal.invariant-loop-tie
invariant-loop-tie l = record {
  done : (k : ℕ) → k < 13 * l.tie → get_or l.ties k (pos 0) ≡
      next_number l.net (flow l.net l.family) l.s k (get_or l.initial.ties k (pos 0));
  left : (k : ℕ) → 13 * l.tie ≤ k → get_or l.ties k (pos 0) ≡ get_or l.initial.ties k (pos 0);
  long : length l.ties ≡ length l.initial.ties;
}
