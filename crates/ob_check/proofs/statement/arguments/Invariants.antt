use Rattle.std.proofs.Common.{◌≡◌, [], drop}
use Rattle.ob_syntax.specs.Statements.{arguments}
use Rattle.ob_check.specs.Judging.{known_at}
use Rattle.ob_check.proofs.statement.arguments.Given as goal

abbrev pub invariant-loop-expr : goal.invariant-loop-expr
invariant-loop-expr l =
    arguments (known_at l.place) l.done.items l.left (drop l.expr-index l.exprs) ≡
    arguments (known_at l.place) [] l.params l.exprs
