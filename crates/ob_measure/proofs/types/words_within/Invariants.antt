-- The words so far are below the maximum, and with those of what is left they are all words.
use Rattle.std.proofs.Common.{◌≡◌, drop, None}
use Rattle.pra_base.specs.declared.limit.LimitKind.TheVariants.{TypeWords}
use Rattle.ob_syntax.specs.Storage.{all_words, words_after}
use Rattle.ob_syntax.specs.WellFormed.{first_above}
use Rattle.ob_measure.proofs.types.words_within.Given as goal

abbrev pub invariant-loop-shape : goal.invariant-loop-shape
invariant-loop-shape l =
    (words_after l.words.items (drop l.shape-index l.shapes) ≡ all_words l.shapes)
    × (first_above TypeWords l.words.items ≡ None)
