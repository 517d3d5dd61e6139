use Rattle.std.proofs.Common.{◌≡◌, take}
use Rattle.net_kept.specs.Numbers.{spread}
use Rattle.net_kept.proofs.prices.spread_out.Given as goal

abbrev pub invariant-loop-entry : goal.invariant-loop-entry
invariant-loop-entry l = l.numbers ≡ spread l.ties (take l.entry-index l.entries)
