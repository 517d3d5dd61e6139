use Rattle.std.proofs.Common.{◌≡◌, drop}
use Rattle.ob_syntax.specs.Declarations.{with_parameters}
use Rattle.ob_check.specs.Judging.{known_at}
use Rattle.ob_check.proofs.declaration.show_parameters.Given as goal

abbrev pub invariant-loop-token : goal.invariant-loop-token
invariant-loop-token l =
    with_parameters (known_at l.place) l.params.items l.by_var l.type_id
    (drop l.token-index l.names) ≡
    with_parameters (known_at l.initial.place) l.initial.params.items l.by_var l.type_id l.names
