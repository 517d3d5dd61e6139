-- What is left, behind what is done, gives what the whole gives.
use Rattle.std.proofs.Common.{◌≡◌, drop, map}
use Rattle.ob_syntax.specs.Types.{all_fields, fields_of, with_fields}
use Rattle.ob_check.specs.Judging.{known_at, fields_at}
use Rattle.ob_check.proofs.type_expression.+types.Given as goal

abbrev pub invariant-field_lists-loop-list : goal.invariant-field_lists-loop-list
invariant-field_lists-loop-list l =
    all_fields (fields_at l.place l.names l.types.items)
    (map fields_of (drop l.list-index l.lists)) ≡
    all_fields (fields_at l.initial.place l.initial.names l.initial.types.items)
    (map fields_of l.lists)

abbrev pub invariant-field_list-loop-token : goal.invariant-field_list-loop-token
invariant-field_list-loop-token l =
    with_fields (known_at l.place) l.names (drop l.token-index l.token-items) ≡
    with_fields (known_at l.place) l.initial.names l.token-items
