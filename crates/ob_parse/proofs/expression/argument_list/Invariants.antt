use Rattle.std.proofs.Common.{◌++◌, length, [], ◌∷◌}
use Rattle.ob_syntax.specs.Grammar.{level, phrase, Arguments, ArgumentList}
use Rattle.ob_parse.specs.Reading.{left}
use Rattle.ob_parse.proofs.PhraseUnderway.{Waits}
use Rattle.ob_parse.proofs.expression.argument_list.Given as goal

abbrev pub invariant-loop-p : goal.invariant-loop-p
invariant-loop-p l = Waits ArgumentList (phrase level Arguments ∷ []) l.room (λ j v. l.all ++ v.0)
    l.fn.p l.p

abbrev pub decreases-loop-p : goal.decreases-loop-p
decreases-loop-p l = length (left l.p)
