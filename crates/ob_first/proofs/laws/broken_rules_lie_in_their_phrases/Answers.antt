use Rattle.ob_first.proofs.TreesStand.{in_expression, in_statement, in_type, in_procedure}
use Rattle.ob_first.proofs.laws.broken_rules_lie_in_their_phrases.Goals as goal

pub returns-clause-expression : goal.returns-clause-expression
returns-clause-expression c = in_expression

pub returns-clause-statement : goal.returns-clause-statement
returns-clause-statement c = in_statement

pub returns-clause-type_expression : goal.returns-clause-type_expression
returns-clause-type_expression c = in_type

pub returns-clause-procedure : goal.returns-clause-procedure
returns-clause-procedure c = in_procedure
