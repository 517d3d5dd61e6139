use Rattle.std.proofs.Common.{◌≡◌, ℕ, [], length, get_or}
use Rattle.vc_live.proofs.solve.no_sources.Given as goal

abbrev pub invariant-loop : goal.invariant-loop
invariant-loop l = record {
  count : length l.sources.items ≡ l.counter;
  none : (t : ℕ) → get_or l.sources.items t [] ≡ [];
}
