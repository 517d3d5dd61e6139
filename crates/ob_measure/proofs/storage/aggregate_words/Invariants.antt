-- What is counted and the words of what is left are the words of all.
use Rattle.std.proofs.Common.{◌≡◌, ◌+◌, drop}
use Rattle.ob_syntax.specs.WellFormed.{aggregate_words, aggregate_words_from, lent_in_body}
use Rattle.ob_measure.proofs.storage.aggregate_words.Given as goal

abbrev pub invariant-loop-number : goal.invariant-loop-number
invariant-loop-number l =
    l.total + aggregate_words_from l.types.shapes (lent_in_body l.draft) l.number
    (drop l.number l.draft.vars)
    ≡ aggregate_words l.types.shapes l.draft
