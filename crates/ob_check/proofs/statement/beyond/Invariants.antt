use Rattle.std.proofs.Common.{◌≡◌, drop}
use Rattle.ob_syntax.specs.Statements.{beyond}
use Rattle.ob_check.specs.Judging.{known_at}
use Rattle.ob_check.proofs.statement.beyond.Given as goal

abbrev pub invariant-loop-expr : goal.invariant-loop-expr
invariant-loop-expr l =
    beyond (known_at l.place) (drop l.expr-index l.exprs) ≡
    beyond (known_at l.place) l.exprs
