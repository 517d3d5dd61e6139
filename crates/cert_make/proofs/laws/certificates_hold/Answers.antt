use Rattle.cert_check.proofs.Claims.{yes_bounds}
use Rattle.cert_make.proofs.Holds.{all_hold}
use Rattle.cert_make.proofs.laws.certificates_hold.Goals as goal

pub returns-clause-yes : goal.returns-clause-yes
returns-clause-yes g = all_hold

pub returns-clause-bounded : goal.returns-clause-bounded
returns-clause-bounded g = λ program wanted compiled c same is certified.
    yes_bounds c (all_hold program wanted compiled c same is certified)
