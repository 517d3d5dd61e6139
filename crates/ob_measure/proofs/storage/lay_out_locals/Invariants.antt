-- What is laid out, with what is left, is all; and so are the words.
use Rattle.std.proofs.Common.{◌≡◌, ◌+◌, ◌++◌, drop}
use Rattle.ob_syntax.specs.WellFormed.{aggregate_words, aggregate_words_from, lent_in_body}
use Rattle.ob_syntax.specs.WellFormed.{locals_from}
use Rattle.ob_measure.proofs.storage.lay_out_locals.Given as goal

abbrev pub invariant-loop-number : goal.invariant-loop-number
invariant-loop-number l =
    let lent = lent_in_body l.draft in
    let left = drop l.number l.draft.vars in
    (l.locals.items ++ locals_from l.types.shapes lent l.number l.next left ≡
    locals_from l.types.shapes lent 0 0 l.draft.vars)
    × (l.next + aggregate_words_from l.types.shapes lent l.number left ≡
    aggregate_words l.types.shapes l.draft)
