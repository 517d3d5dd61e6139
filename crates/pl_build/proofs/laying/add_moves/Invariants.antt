use Rattle.std.proofs.Common.{◌≡◌, ◌++◌, map}
use Rattle.pl_place.specs.declared.placed.LInstr.TheVariants.{Move}
use Rattle.pl_build.proofs.laying.add_moves.Given as goal

abbrev pub invariant-loop-step : goal.invariant-loop-step
invariant-loop-step l = l.out.items ++ map Move l.step-iterator.rest.items ≡ l.initial.out.items
    ++ map Move l.initial.step-iterator.rest.items
