use Rattle.cert_form.proofs.Answered.{only_one}
use Rattle.cert_form.proofs.laws.one_certificate.Goals as goal

pub returns : goal.returns
returns c = only_one
