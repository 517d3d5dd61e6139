use Rattle.std.proofs.Common.{◌≡◌, [], drop}
use Rattle.ob_syntax.specs.Declarations.{all_variables}
use Rattle.ob_check.specs.Judging.{known_at}
use Rattle.ob_check.proofs.declaration.variables.Given as goal

abbrev pub invariant-loop-list : goal.invariant-loop-list
invariant-loop-list l =
    all_variables (known_at l.place) l.vars.items (drop l.list-index l.lists) ≡
    all_variables (known_at l.initial.place) [] l.lists
