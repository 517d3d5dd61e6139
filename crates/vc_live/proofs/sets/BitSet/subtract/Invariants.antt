use Rattle.std.proofs.Common.{◌≡◌, ℕ, ◌-◌, ◌^◌, ◌<◌, ◌≤◌, length, get_or, bit_and}
use Rattle.vc_live.proofs.sets.BitSet.subtract.Given as goal

abbrev pub invariant-loop-i : goal.invariant-loop-i
invariant-loop-i l = record {
  words : length l.self-inside.words.items ≡ length l.initial.self-inside.words.items;
  small : (k : ℕ) → k < l.i → get_or l.other-inside.words.items k 0 < 2 ^ 64;
  done : (k : ℕ) → k < l.i → get_or l.self-inside.words.items k 0 ≡
      bit_and (get_or l.initial.self-inside.words.items k 0)
      (2 ^ 64 - 1 - get_or l.other-inside.words.items k 0);
  left : (k : ℕ) → l.i ≤ k → get_or l.self-inside.words.items k 0 ≡
      get_or l.initial.self-inside.words.items k 0;
}
