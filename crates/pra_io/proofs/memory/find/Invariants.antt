use Rattle.std.proofs.Common.{◌≡◌, length}
use Rattle.pra_io.specs.Entries.{held_at}
use Rattle.pra_io.proofs.memory.find.Given as goal

abbrev pub invariant-loop-rest : goal.invariant-loop-rest
invariant-loop-rest l = held_at l.name l.rest ≡ held_at l.name l.files

abbrev pub decreases-loop-rest : goal.decreases-loop-rest
decreases-loop-rest l = length l.rest
