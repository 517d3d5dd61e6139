use Rattle.pra_io.proofs.Pieces.{taken, at_end}
use Rattle.pra_io.proofs.memory.MemSourceSource.take.Goals as goal

pub returns-clause-bytes : goal.returns-clause-bytes
returns-clause-bytes c = (
  taken _ _ _ _ _ c.deref.ensures.value c.copy_front-count.ensures.front,
  λ zero room. at_end c.args.self.now.bytes.items c.deref.result.now c.args.self.now.at
      c.copy_front-count.result c.deref.ensures.value zero
      (c.copy_front-count.ensures.end zero room),
)
