-- What is laid out, with what is left, is all; and what is left has the first excess of all.
use Rattle.std.proofs.Common.{◌≡◌, ◌++◌, map}
use Rattle.pra_base.specs.declared.limit.LimitKind.TheVariants.{AggregateWords}
use Rattle.ob_syntax.specs.WellFormed.{first_above, aggregate_words, checked_proc}
use Rattle.ob_measure.specs.Measuring.{place_of}
use Rattle.ob_measure.proofs.procedure.checked_procs.Given as goal

abbrev pub invariant-loop-draft : goal.invariant-loop-draft
invariant-loop-draft l =
    let left = l.draft-iterator.rest.items in
    let place = place_of l.source.bytes.now l.source.tokens.now l.types.shapes in
    (l.procs.items ++ map (checked_proc place) left ≡ map (checked_proc place) l.fn.drafts)
    × (first_above AggregateWords (map (aggregate_words l.types.shapes) left) ≡
    first_above AggregateWords (map (aggregate_words l.types.shapes) l.fn.drafts))
