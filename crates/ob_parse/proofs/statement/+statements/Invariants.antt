use Rattle.std.proofs.Common.{◌+◌, ◌*◌, ◌++◌, length, [], ◌∷◌}
use Rattle.ob_syntax.specs.Grammar.{level, phrase, StatementSequence, Statements, Arms, Elsifs}
use Rattle.ob_parse.specs.Reading.{left}
use Rattle.ob_parse.proofs.PhraseUnderway.{Waits}
use Rattle.ob_parse.proofs.statement.+statements.Given as goal

abbrev pub decreases-statement_sequence : goal.decreases-statement_sequence
decreases-statement_sequence l = 6 * l.room + 1

abbrev pub decreases-statement : goal.decreases-statement
decreases-statement l = 6 * l.room + 0

abbrev pub decreases-some_statement : goal.decreases-some_statement
decreases-some_statement l = 6 * l.room + 5

abbrev pub decreases-if_statement : goal.decreases-if_statement
decreases-if_statement l = 6 * l.room + 4

abbrev pub decreases-arms : goal.decreases-arms
decreases-arms l = 6 * l.room + 3

abbrev pub decreases-arm : goal.decreases-arm
decreases-arm l = 6 * l.room + 2

abbrev pub decreases-otherwise : goal.decreases-otherwise
decreases-otherwise l = 6 * l.room + 2

abbrev pub decreases-while_statement : goal.decreases-while_statement
decreases-while_statement l = 6 * l.room + 4

abbrev pub decreases-repeat_statement : goal.decreases-repeat_statement
decreases-repeat_statement l = 6 * l.room + 4

abbrev pub invariant-statement_sequence-loop-p : goal.invariant-statement_sequence-loop-p
invariant-statement_sequence-loop-p l = Waits StatementSequence (phrase level Statements ∷ [])
    l.room (λ j v. l.all ++ v.0) l.fn.p l.p

abbrev pub decreases-statement_sequence-loop-p : goal.decreases-statement_sequence-loop-p
decreases-statement_sequence-loop-p l = length (left l.p)

abbrev pub invariant-arms-loop-p : goal.invariant-arms-loop-p
invariant-arms-loop-p l = Waits Arms (phrase level Elsifs ∷ []) l.room (λ j v. l.all ++ v.0) l.fn.p
    l.p

abbrev pub decreases-arms-loop-p : goal.decreases-arms-loop-p
decreases-arms-loop-p l = length (left l.p)
