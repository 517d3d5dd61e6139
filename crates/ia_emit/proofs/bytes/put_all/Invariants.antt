use Rattle.std.proofs.Common.{take}
use Rattle.ia_emit.specs.Open.{IsOpen}
use Rattle.ia_emit.specs.Code.{target_in}
use Rattle.ia_emit.proofs.bytes.put_all.Given as goal

abbrev pub invariant-loop-item : goal.invariant-loop-item
invariant-loop-item l =
    IsOpen (target_in l.layout.proc.now l.layout.at) l.layout.at (take l.item-index l.items)
    l.bytes.items l.calls.items
