use Rattle.cert_make.proofs.Whole.{has_one, numbered}
use Rattle.cert_make.proofs.laws.certificates_are_whole.Goals as goal

pub returns-clause-some : goal.returns-clause-some
returns-clause-some g = has_one

pub returns-clause-numbered : goal.returns-clause-numbered
returns-clause-numbered g = numbered
