use Rattle.std.proofs.Common.{◌≡◌, replicate}
use Rattle.vc_live.proofs.sets.BitSet.empty.Given as goal

abbrev pub invariant-loop : goal.invariant-loop
invariant-loop l = l.words.items ≡ replicate l.counter 0
