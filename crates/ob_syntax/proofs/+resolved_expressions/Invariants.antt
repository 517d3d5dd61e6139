-- What is left is no deeper than the whole.
use Rattle.std.proofs.Common.{◌≤◌}
use Rattle.ob_syntax.specs.declared.checked.RExpr.{size-RExpr}
use Rattle.ob_syntax.proofs.+resolved_expressions.Given as goal

abbrev pub invariant-checked::RExpr::drop-loop-self : goal.invariant-checked::RExpr::drop-loop-self
invariant-checked::RExpr::drop-loop-self l = size-RExpr l.self ≤ size-RExpr l.initial.self
