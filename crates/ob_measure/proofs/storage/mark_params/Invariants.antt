-- What is marked, with what is left, is all.
use Rattle.std.proofs.Common.{◌≡◌, ◌++◌, drop}
use Rattle.ob_syntax.specs.WellFormed.{lent_in_body, marked_params}
use Rattle.ob_measure.proofs.storage.mark_params.Given as goal

abbrev pub invariant-loop-number : goal.invariant-loop-number
invariant-loop-number l =
    let lent = lent_in_body l.draft in
    l.params.items ++ marked_params lent l.number (drop l.number l.draft.params) ≡
    marked_params lent 0 l.draft.params
