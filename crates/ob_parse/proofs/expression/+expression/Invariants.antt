use Rattle.std.proofs.Common.{◌+◌, ◌*◌, ◌++◌, length, [], ◌∷◌}
use Rattle.ob_syntax.specs.Grammar.{level, phrase, Selectors, Factors, Terms}
use Rattle.ob_parse.specs.Reading.{left}
use Rattle.ob_parse.proofs.PhraseUnderway.{Waits}
use Rattle.ob_parse.proofs.expression.+expression.Given as goal

abbrev pub decreases-expression : goal.decreases-expression
decreases-expression l = 9 * l.room + 8

abbrev pub decreases-comparison : goal.decreases-comparison
decreases-comparison l = 9 * l.room + 7

abbrev pub decreases-simple_expression : goal.decreases-simple_expression
decreases-simple_expression l = 9 * l.room + 6

abbrev pub decreases-terms : goal.decreases-terms
decreases-terms l = 9 * l.room + 5

abbrev pub decreases-term : goal.decreases-term
decreases-term l = 9 * l.room + 4

abbrev pub decreases-factors : goal.decreases-factors
decreases-factors l = 9 * l.room + 3

abbrev pub decreases-factor : goal.decreases-factor
decreases-factor l = 9 * l.room + 2

abbrev pub decreases-selectors : goal.decreases-selectors
decreases-selectors l = 9 * l.room + 1

abbrev pub decreases-selector : goal.decreases-selector
decreases-selector l = 9 * l.room

abbrev pub invariant-factors-loop-op : goal.invariant-factors-loop-op
invariant-factors-loop-op l = Waits Factors (phrase level Factors ∷ []) l.room
    (λ j v. l.rest ++ v.0) l.fn.p l.p

abbrev pub decreases-factors-loop-op : goal.decreases-factors-loop-op
decreases-factors-loop-op l = length (left l.p)

abbrev pub invariant-terms-loop-op : goal.invariant-terms-loop-op
invariant-terms-loop-op l = Waits Terms (phrase level Terms ∷ []) l.room (λ j v. l.rest ++ v.0)
    l.fn.p l.p

abbrev pub decreases-terms-loop-op : goal.decreases-terms-loop-op
decreases-terms-loop-op l = length (left l.p)

abbrev pub invariant-selectors-loop-p : goal.invariant-selectors-loop-p
invariant-selectors-loop-p l = Waits Selectors (phrase level Selectors ∷ []) l.room
    (λ j v. l.all ++ v.0) l.fn.p l.p

abbrev pub decreases-selectors-loop-p : goal.decreases-selectors-loop-p
decreases-selectors-loop-p l = length (left l.p)
