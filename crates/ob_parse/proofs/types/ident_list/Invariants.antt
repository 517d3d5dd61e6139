use Rattle.std.proofs.Common.{ℕ, ◌++◌, length, [], ◌∷◌}
use Rattle.ob_syntax.specs.Grammar.{level, phrase, IdentList, Idents}
use Rattle.ob_parse.specs.Reading.{left}
use Rattle.ob_parse.proofs.PhraseUnderway.{Waits}
use Rattle.ob_parse.proofs.types.ident_list.Given as goal

abbrev pub invariant-loop-next : goal.invariant-loop-next
invariant-loop-next l = (room : ℕ) → Waits IdentList (phrase level Idents ∷ []) room
    (λ j v. l.names ++ v.0) l.fn.p l.p

abbrev pub decreases-loop-next : goal.decreases-loop-next
decreases-loop-next l = length (left l.p)
