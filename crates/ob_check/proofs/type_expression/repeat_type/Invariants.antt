use Rattle.std.proofs.Common.{◌≡◌, drop}
use Rattle.ob_syntax.specs.Types.{with_types}
use Rattle.ob_check.proofs.type_expression.repeat_type.Given as goal

abbrev pub invariant-loop-token : goal.invariant-loop-token
invariant-loop-token l =
    with_types l.types.items l.type_id (drop l._token-index l.names) ≡
    with_types l.initial.types.items l.type_id l.names
