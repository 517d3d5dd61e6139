use Rattle.cert_form.specs.CodeForm.{code_file_text}
use Rattle.cert_form.proofs.CodesAnswered.{is_code_read_again}
use Rattle.cert_form.proofs.Plain.{code_file_plain}
use Rattle.cert_form.proofs.code_files.code_text.Goals as goal

pub returns-clause-text : goal.returns-clause-text
unfolding code_file_text
returns-clause-text c = c.in_ok-text.ensures.text (code_file_plain c.args.file.now)

pub returns-clause-back : goal.returns-clause-back
returns-clause-back c = c.in_ok-text.ensures.back (code_file_plain c.args.file.now)

pub returns-clause-again : goal.returns-clause-again
returns-clause-again c =
    is_code_read_again c.args.file.now _ c.in_ok-text.ensures.range (returns-clause-back c)
