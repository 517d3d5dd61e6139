-- What is added, with what is left, is what all lend.
use Rattle.std.proofs.Common.{◌≡◌, ◌++◌, drop}
use Rattle.ob_syntax.specs.WellFormed.{lent_by}
use Rattle.ob_measure.proofs.lent.lent_by_all.Given as goal

abbrev pub invariant-loop-arg : goal.invariant-loop-arg
invariant-loop-arg l =
    l.roots.items ++ lent_by (drop l.arg-index l.args) ≡ l.initial.roots.items ++ lent_by l.args
