use Rattle.std.proofs.Common.{◌≡◌, ℕ, ◌<◌, length, get_or}
use Rattle.vc_live.proofs.sets.BitSet.clear.Given as goal

abbrev pub invariant-loop-i : goal.invariant-loop-i
invariant-loop-i l = record {
  words : length l.self-inside.words.items ≡ length l.initial.self-inside.words.items;
  done : (k : ℕ) → k < l.i → get_or l.self-inside.words.items k 0 ≡ 0;
}
