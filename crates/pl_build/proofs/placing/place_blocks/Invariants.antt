use Rattle.pl_routed.specs.Routed.{routed}
use Rattle.pl_build.specs.Laid.{AreBlocks}
use Rattle.pl_build.proofs.placing.place_blocks.Given as goal

abbrev pub invariant-loop-b : goal.invariant-loop-b
invariant-loop-b l = AreBlocks (routed l.code l.net l.routes) l.b l.blocks
