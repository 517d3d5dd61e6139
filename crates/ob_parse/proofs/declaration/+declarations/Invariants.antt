use Rattle.std.proofs.Common.{◌+◌, ◌*◌, ◌++◌, length, [], ◌∷◌}
use Rattle.ob_syntax.specs.Grammar.{level, phrase, Procedures}
use Rattle.ob_parse.specs.Reading.{left}
use Rattle.ob_parse.proofs.PhraseUnderway.{Waits}
use Rattle.ob_parse.proofs.declaration.+declarations.Given as goal

abbrev pub decreases-declarations : goal.decreases-declarations
decreases-declarations l = 3 * l.room + 1

abbrev pub decreases-procedures : goal.decreases-procedures
decreases-procedures l = 3 * l.room

abbrev pub decreases-procedure : goal.decreases-procedure
decreases-procedure l = 3 * l.room + 2

abbrev pub invariant-procedures-loop-all : goal.invariant-procedures-loop-all
invariant-procedures-loop-all l = Waits Procedures (phrase level Procedures ∷ []) l.room
    (λ j v. l.all ++ v.0) l.fn.p l.p

abbrev pub decreases-procedures-loop-all : goal.decreases-procedures-loop-all
decreases-procedures-loop-all l = length (left l.p)
