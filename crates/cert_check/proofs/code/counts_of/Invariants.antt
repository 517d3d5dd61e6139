use Rattle.std.proofs.Common.{◌≡◌, take}
use Rattle.cert_check.specs.Reasons.{counts_in}
use Rattle.cert_check.proofs.code.counts_of.Given as goal

abbrev pub invariant-loop-cert : goal.invariant-loop-cert
invariant-loop-cert l = l.counts.items ≡ counts_in (take l.cert-index l.procs)
