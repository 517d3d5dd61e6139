use Rattle.std.proofs.Common.{◌≡◌, ◌++◌, drop}
use Rattle.cert_make.specs.Made.{numbers_from}
use Rattle.cert_make.proofs.making.numbers_of.Given as goal

abbrev pub invariant-loop-index : goal.invariant-loop-index
invariant-loop-index l =
    l.ties ++ numbers_from l.index (drop l.index l.numbers) ≡ numbers_from 0 l.numbers
