use Rattle.cert_check.proofs.Claims.{yes_ok}
use Rattle.cert_check.proofs.check.check_cert.Goals as goal

pub returns-in-Size-clause-bounded : goal.returns-in-Size-clause-bounded
returns-in-Size-clause-bounded c = yes_ok c.args.c.now c.check_by.result c.check_by.ensures

pub returns-in-Speed-clause-bounded : goal.returns-in-Speed-clause-bounded
returns-in-Speed-clause-bounded c = yes_ok c.args.c.now c.check_by-in-Speed.result
    c.check_by-in-Speed.ensures
