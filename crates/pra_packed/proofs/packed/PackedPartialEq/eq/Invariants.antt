use Rattle.std.proofs.Common.{◌≡◌, drop}
use Rattle.std.specs.Cmp.Lexicographic.{pointwise}
use Rattle.pra_packed.proofs.packed.PackedPartialEq.eq.Given as goal

abbrev pub invariant-loop-at : goal.invariant-loop-at
invariant-loop-at g l =
    (pointwise (pointwise g.T.PartialEq.eq) (drop l.at l.self) (drop l.at l.other)
    ≡ pointwise (pointwise g.T.PartialEq.eq) l.self l.other)
