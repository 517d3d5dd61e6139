use Rattle.cert_form.proofs.Answered.{is_read}
use Rattle.cert_form.proofs.laws.text_is_read.Goals as goal

pub returns : goal.returns
returns c = is_read
