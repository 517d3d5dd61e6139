use Rattle.std.proofs.Common.{◌*◌}
use Rattle.net_kept.specs.Numbers.{ArePackedTo}
use Rattle.net_kept.proofs.prices.packed.Given as goal

abbrev pub invariant-loop-tie : goal.invariant-loop-tie
invariant-loop-tie l = ArePackedTo l.ties (13 * l.tie) l.numbers l.entries.items
