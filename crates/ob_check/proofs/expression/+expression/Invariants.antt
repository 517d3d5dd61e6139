-- What is left, behind what is done, gives what the whole gives.
use Rattle.std.proofs.Common.{◌≡◌, [], drop, map}
use Rattle.ob_syntax.specs.Expressions.{selected, chained, one_selector, following_term}
use Rattle.ob_syntax.specs.Expressions.{following_factor, name_with_selectors, simple_expression}
use Rattle.ob_syntax.specs.Expressions.{whole_term}
use Rattle.ob_check.specs.Judging.{known_at}
use Rattle.ob_check.proofs.expression.+expression.Given as goal

abbrev pub invariant-selected-loop-selector : goal.invariant-selected-loop-selector
invariant-selected-loop-selector l =
    selected (known_at l.place) l.steps.items l.type_id
    (map one_selector (drop l.selector-index l.selector-items)) ≡
    selected (known_at l.place) [] l.fn.type_id (name_with_selectors l.name).selectors

abbrev pub invariant-simple_expression-loop-next : goal.invariant-simple_expression-loop-next
invariant-simple_expression-loop-next l =
    chained (known_at l.place) l.last l.so_far
    (map following_term (drop l.next-index l.next-items)) ≡
    (simple_expression l.simple).judge (known_at l.place)

abbrev pub invariant-term-loop-next : goal.invariant-term-loop-next
invariant-term-loop-next l =
    chained (known_at l.place) l.last l.so_far
    (map following_factor (drop l.next-index l.next-items)) ≡
    (whole_term l.term).judge (known_at l.place)
