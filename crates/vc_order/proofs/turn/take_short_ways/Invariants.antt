use Rattle.vc_order.proofs.Turning.{AreShort}
use Rattle.vc_order.proofs.turn.take_short_ways.Given as goal

-- so many blocks have been looked at
abbrev pub invariant-loop-b : goal.invariant-loop-b
invariant-loop-b l = AreShort l.fn.code.blocks l.b l.blocks.items
