use Rattle.std.proofs.Common.{◌+◌, ◌*◌}
use Rattle.net_kept.specs.Numbers.{ArePackedTo}
use Rattle.net_kept.proofs.prices.pack_tie.Given as goal

abbrev pub invariant-loop-slot : goal.invariant-loop-slot
invariant-loop-slot l = ArePackedTo l.ties (13 * l.tie + l.slot) l.numbers l.entries.items
