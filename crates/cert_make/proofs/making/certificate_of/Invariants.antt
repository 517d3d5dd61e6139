use Rattle.cert_make.proofs.Certified.{AreCertified}
use Rattle.cert_make.proofs.making.certificate_of.Given as goal

abbrev pub invariant-loop-out : goal.invariant-loop-out
invariant-loop-out l = AreCertified l.fn.procs l.certs.items l.out-iterator.rest.items
