use Rattle.std.proofs.Common.{◌≡◌, ◌+◌, true, length}
use Rattle.vc_live.specs.Sets.{contains}
use Rattle.vc_live.specs.Equations.{total_room}
use Rattle.vc_live.specs.Spreading.{HasSpread, IsPassed, AreWithin, is_left}
use Rattle.vc_live.proofs.solve.spread.Given as goal

abbrev pub invariant-loop-block : goal.invariant-loop-block
invariant-loop-block l = record {
  spread : HasSpread (length l.flow.constants) l.code (contains l.flow.constants) l.word
      l.initial.entries.items l.entries.items;
  passed : IsPassed l.code l.flow.stops l.entries.items l.word
      (λ b t. is_left l.left.items t ≡ true);
  within : AreWithin l.left.items (length l.code.blocks);
}

abbrev pub decreases-loop-block : goal.decreases-loop-block
decreases-loop-block l = total_room l.entries.items + length l.left.items
