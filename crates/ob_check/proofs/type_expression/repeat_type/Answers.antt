use Rattle.std.proofs.Common.{◌≡◌, ℕ, ◌+◌, ◌<◌, List, [], ◌∷◌, ◌++◌, length, drop, drop-cons}
use Rattle.std.proofs.Common.{add-one, sym, ◌∙◌}
use Rattle.ob_syntax.specs.Types.{with_types}
use Rattle.ob_check.proofs.type_expression.repeat_type.Goals as goal

one_more : (types names : List ℕ) (type_id i : ℕ) → i < length names →
    with_types types type_id (drop i names) ≡ with_types (types ++ type_id ∷
    []) type_id (drop (i + 1) names)
one_more types names type_id i h = rw (add-one, drop-cons names i 0)

pub loop-token-preserved : goal.loop-token-preserved
loop-token-preserved c =
    rw c.in_ok-push.ensures.items
    (sym (one_more c.loop-token.types.items c.args.names.now c.args.type_id
    c.loop-token._token-index c.loop-token-test.true) ∙ c.loop-token.invariant)
