use Rattle.std.proofs.Common.{◌≡◌, true}
use Rattle.cert_form.specs.CodeForm.{is_name}
use Rattle.cert_form.proofs.NamesAreText.{name_is_text}
use Rattle.cert_form.proofs.code_writing.name_value.Goals as goal

pub returns-in-Err : goal.returns-in-Err
returns-in-Err c =
    let named : is_name c.args.name.now ≡ true = cc in
    absurd (c.in-Err.ensures.cases.0 (name_is_text c.args.name.now named))
