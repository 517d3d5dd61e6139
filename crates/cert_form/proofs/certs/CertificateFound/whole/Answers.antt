use Rattle.cert_form.proofs.Held.{certificate_found, some_there}
use Rattle.cert_form.proofs.certs.CertificateFound.whole.Goals as goal

pub returns : goal.returns
returns c = λ os h.
    certificate_found c.args.self os h c.in_ok-cost.cost c.in_ok-_kind._kind c.in_ok-procs.procs
    c.in_ok-_version._version c.in_ok-cost.was c.in_ok-_kind.was c.in_ok-procs.was
    c.in_ok-_version.was (some_there c.in_ok-procs.procs c.is_empty.result c.is_empty.ensures
    c.if-is_empty.false)
