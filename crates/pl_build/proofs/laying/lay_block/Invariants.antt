use Rattle.std.proofs.Common.{◌++◌, ℕ, List, drop}
use Rattle.pl_made.specs.Made.{LaysMoves}
use Rattle.pl_place.specs.declared.placed.LInstr.{LInstr}
use Rattle.pl_place.specs.Behind.{Routed}
use Rattle.pl_build.specs.Laid.{AreLayers}
use Rattle.pl_build.proofs.laying.lay_block.Given as goal

abbrev pub invariant-loop-k : goal.invariant-loop-k
invariant-loop-k l = (r : Routed) (b : ℕ) (more : List LInstr) →
    AreLayers r b l.code l.first l.layers →
    LaysMoves r b l.k (drop l.k l.code) more → LaysMoves r b 0 l.code (l.out.items ++ more)
