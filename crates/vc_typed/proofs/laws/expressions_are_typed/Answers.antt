use Rattle.vc_typed.proofs.ExpressionTrees.{expression_good}
use Rattle.vc_typed.proofs.laws.expressions_are_typed.Goals as goal

pub returns-clause-scalar : goal.returns-clause-scalar
returns-clause-scalar c =
    λ program p fits e x is. ((expression_good program e).holds p fits x is).value

pub returns-clause-variable : goal.returns-clause-variable
returns-clause-variable c =
    λ program p fits e x is. ((expression_good program e).holds p fits x is).variable
