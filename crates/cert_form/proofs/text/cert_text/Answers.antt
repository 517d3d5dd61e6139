use Rattle.cert_form.specs.Form.{certificate_text}
use Rattle.cert_form.proofs.Answered.{is_read_again}
use Rattle.cert_form.proofs.Plain.{certificate_plain}
use Rattle.cert_form.proofs.text.cert_text.Goals as goal

pub returns-clause-text : goal.returns-clause-text
unfolding certificate_text
returns-clause-text c = c.in_ok-text.ensures.text (certificate_plain c.args.c.now)

pub returns-clause-back : goal.returns-clause-back
returns-clause-back c = c.in_ok-text.ensures.back (certificate_plain c.args.c.now)

pub returns-clause-again : goal.returns-clause-again
returns-clause-again c =
    is_read_again c.args.c.now _ c.in_ok-text.ensures.range (returns-clause-back c)
