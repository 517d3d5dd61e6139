use Rattle.std.proofs.Common.{◌≡◌, drop}
use Rattle.std.specs.Prelude.{slice_index}
use Rattle.ia_list.specs.Reading.{first_named, forms_with}
use Rattle.ia_list.proofs.reader.form_named.Given as goal

abbrev pub invariant-loop-form : goal.invariant-loop-form
invariant-loop-form l =
    first_named l.word (drop l.form-index (forms_with (slice_index l.word 0)))
    ≡ first_named l.word (forms_with (slice_index l.word 0))
