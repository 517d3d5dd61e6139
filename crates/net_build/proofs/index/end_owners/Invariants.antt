use Rattle.std.proofs.Common.{◌≡◌, take}
use Rattle.net_build.specs.Owners.{end_owners}
use Rattle.net_build.proofs.index.end_owners.Given as goal

abbrev pub invariant-loop-pair : goal.invariant-loop-pair
invariant-loop-pair l = l.owners ≡ end_owners (take l.pair-index l.pairs)
