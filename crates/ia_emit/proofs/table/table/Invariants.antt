use Rattle.std.proofs.Common.{◌≡◌, take}
use Rattle.std.specs.Prelude.{map}
use Rattle.ia_emit.proofs.Tables.{without_slot, Entered}
use Rattle.ia_emit.proofs.table.table.Given as goal

abbrev pub invariant-loop-kind : goal.invariant-loop-kind
invariant-loop-kind l = l.table.items ≡ map (without_slot l.proc) (take l.kind-index l.kind-items)

abbrev pub invariant-loop-k : goal.invariant-loop-k
invariant-loop-k l = Entered l.proc l.k l.table.items
