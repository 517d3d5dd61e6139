use Rattle.std.proofs.Common.{◌≡◌, ℕ, length}
use Rattle.cert_check.specs.Listed.{AreTieNumbers, with_tie_numbers}
use Rattle.cert_check.proofs.listed.put_numbers.Given as goal

abbrev pub invariant-loop-rest : goal.invariant-loop-rest
invariant-loop-rest l = record {
  same : with_tie_numbers l.numbers l.rest ≡ with_tie_numbers l.fn.numbers l.entries;
  from : ℕ;
  listed : AreTieNumbers (length l.numbers) from l.rest;
}

abbrev pub decreases-loop-rest : goal.decreases-loop-rest
decreases-loop-rest l = length l.rest
