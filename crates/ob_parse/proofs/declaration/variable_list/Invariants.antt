use Rattle.std.proofs.Common.{◌++◌, length, [], ◌∷◌}
use Rattle.ob_syntax.specs.Grammar.{level, phrase, VariableList}
use Rattle.ob_parse.specs.Reading.{left}
use Rattle.ob_parse.proofs.PhraseUnderway.{Waits}
use Rattle.ob_parse.proofs.declaration.variable_list.Given as goal

abbrev pub invariant-loop-all : goal.invariant-loop-all
invariant-loop-all l = Waits VariableList (phrase level VariableList ∷ []) l.room
    (λ j v. l.all ++ v.0) l.fn.p l.p

abbrev pub decreases-loop-all : goal.decreases-loop-all
decreases-loop-all l = length (left l.p)
