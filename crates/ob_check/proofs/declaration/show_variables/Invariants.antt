use Rattle.std.proofs.Common.{◌≡◌, drop}
use Rattle.ob_syntax.specs.Declarations.{with_variables}
use Rattle.ob_check.specs.Judging.{known_at}
use Rattle.ob_check.proofs.declaration.show_variables.Given as goal

abbrev pub invariant-loop-token : goal.invariant-loop-token
invariant-loop-token l =
    with_variables (known_at l.place) l.vars.items l.type_id (drop l.token-index l.names) ≡
    with_variables (known_at l.initial.place) l.initial.vars.items l.type_id l.names
