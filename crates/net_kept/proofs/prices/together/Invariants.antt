use Rattle.std.proofs.Common.{◌≡◌, take}
use Rattle.net_kept.specs.Numbers.{joined}
use Rattle.net_kept.proofs.prices.together.Given as goal

abbrev pub invariant-loop-at : goal.invariant-loop-at
invariant-loop-at l = l.entries.items ≡ take l.at (joined l.indexes l.numbers)
