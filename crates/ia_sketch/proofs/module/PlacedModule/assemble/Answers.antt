use Rattle.ia_sketch.proofs.Adding.{can_assemble}
use Rattle.ia_sketch.proofs.module.PlacedModule.assemble.Goals as goal

pub assemble-requires-clause-procs : goal.assemble-requires-clause-procs
assemble-requires-clause-procs c = rw c.as_slice.ensures.value (can_assemble _ _ _ c.self.invariant)
