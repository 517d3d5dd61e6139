use Rattle.std.proofs.Common.{◌≡◌, drop}
use Rattle.cert_form.specs.Table.{first_named, all_forms}
use Rattle.cert_form.proofs.table.form_named.Given as goal

abbrev pub invariant-loop-form : goal.invariant-loop-form
invariant-loop-form l =
    first_named l.word (drop l.form-index all_forms) ≡ first_named l.word all_forms
