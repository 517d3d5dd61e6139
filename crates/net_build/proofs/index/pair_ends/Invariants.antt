use Rattle.std.proofs.Common.{◌≡◌, map, take}
use Rattle.net_build.specs.Owners.{pair_end}
use Rattle.net_build.proofs.index.pair_ends.Given as goal

abbrev pub invariant-loop-end : goal.invariant-loop-end
invariant-loop-end l = l.ends ≡ map (pair_end l.pairs) (take l.end-index l.order)
