use Rattle.std.proofs.Common.{◌≡◌, length, take}
use Rattle.net_kept.specs.Numbers.{joined}
use Rattle.net_kept.proofs.prices.apart.Given as goal

abbrev pub invariant-loop-entry : goal.invariant-loop-entry
invariant-loop-entry l = record {
  long : length l.indexes.items ≡ length l.numbers.items;
  same : joined l.indexes.items l.numbers.items ≡ take l.entry-index l.entries;
}
