-- What is marked, or is left, is what is lent.
use Rattle.std.proofs.Common.{◌≡◌, length, drop}
use Rattle.ob_syntax.specs.declared.checked.Root.TheVariants.{Param, Local}
use Rattle.ob_measure.proofs.Marks.{AreMarksSo}
use Rattle.ob_measure.proofs.lent.Lent.new.Given as goal

abbrev pub invariant-loop-root : goal.invariant-loop-root
invariant-loop-root l =
    (length l.params.items ≡ length l.draft.params) × (length l.locals.items ≡ length l.draft.vars)
    × AreMarksSo Param (drop l.root-index l.root-items) l.root-items l.params.items
    × AreMarksSo Local (drop l.root-index l.root-items) l.root-items l.locals.items
