use Rattle.std.proofs.Common.{◌≡◌, ℕ, length}
use Rattle.cert_check.specs.Listed.{AreCaps, with_caps}
use Rattle.cert_check.proofs.listed.put_caps.Given as goal

abbrev pub invariant-loop-rest : goal.invariant-loop-rest
invariant-loop-rest l = record {
  same : with_caps l.prices l.rest ≡ with_caps l.fn.prices l.entries;
  from : ℕ;
  listed : AreCaps (length l.prices) from l.rest;
}

abbrev pub decreases-loop-rest : goal.decreases-loop-rest
decreases-loop-rest l = length l.rest
