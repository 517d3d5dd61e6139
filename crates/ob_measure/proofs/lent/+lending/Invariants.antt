-- What is added, with what is left, is what all lend.
use Rattle.std.proofs.Common.{◌≡◌, List, ◌++◌, drop, map}
use Rattle.ob_syntax.specs.declared.checked.RArm.{RArm, fold-RArm}
use Rattle.ob_syntax.specs.declared.checked.Root.{Root}
use Rattle.ob_syntax.specs.WellFormed.{joined, lent_in, lent_step, lent_in_arm}
use Rattle.ob_measure.proofs.lent.+lending.Given as goal

abbrev pub by_arm : RArm → List Root
by_arm = fold-RArm (List Root) (List Root) lent_step lent_in_arm

abbrev pub invariant-lent_in-loop-arm : goal.invariant-lent_in-loop-arm
invariant-lent_in-loop-arm l =
    l.roots.items ++ joined (map by_arm (drop l.arm-index l.arm-items))
    ≡ l.initial.roots.items ++ joined (map by_arm l.arm-items)

abbrev pub invariant-lent_in_all-loop-statement : goal.invariant-lent_in_all-loop-statement
invariant-lent_in_all-loop-statement l =
    l.roots.items ++ joined (map lent_in (drop l.statement-index l.statements))
    ≡ l.initial.roots.items ++ joined (map lent_in l.statements)
