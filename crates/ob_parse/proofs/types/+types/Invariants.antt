use Rattle.std.proofs.Common.{◌+◌, ◌*◌, ◌++◌, length, [], ◌∷◌}
use Rattle.ob_syntax.specs.Grammar.{level, phrase, FieldSequence, FieldLists}
use Rattle.ob_parse.specs.Reading.{left}
use Rattle.ob_parse.proofs.PhraseUnderway.{Waits}
use Rattle.ob_parse.proofs.types.+types.Given as goal

abbrev pub decreases-field_sequence : goal.decreases-field_sequence
decreases-field_sequence l = 4 * l.room + 2

abbrev pub decreases-field_list : goal.decreases-field_list
decreases-field_list l = 4 * l.room + 1

abbrev pub decreases-type_expression : goal.decreases-type_expression
decreases-type_expression l = 4 * l.room + 3

abbrev pub decreases-name_list : goal.decreases-name_list
decreases-name_list l = 4 * l.room + 4

abbrev pub invariant-field_sequence-loop-p : goal.invariant-field_sequence-loop-p
invariant-field_sequence-loop-p l = Waits FieldSequence (phrase level FieldLists ∷ []) l.room
    (λ j v. l.all ++ v.0) l.fn.p l.p

abbrev pub decreases-field_sequence-loop-p : goal.decreases-field_sequence-loop-p
decreases-field_sequence-loop-p l = length (left l.p)
