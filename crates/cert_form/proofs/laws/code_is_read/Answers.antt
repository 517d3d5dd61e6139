use Rattle.cert_form.proofs.CodesAnswered.{is_code_read}
use Rattle.cert_form.proofs.laws.code_is_read.Goals as goal

pub returns : goal.returns
returns c = is_code_read
