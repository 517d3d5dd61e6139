use Rattle.cert_form.proofs.CodesAnswered.{only_one_code}
use Rattle.cert_form.proofs.laws.one_code_file.Goals as goal

pub returns : goal.returns
returns c = only_one_code
