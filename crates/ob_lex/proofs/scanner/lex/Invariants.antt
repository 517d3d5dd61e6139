use Rattle.std.proofs.Common.{◌+◌, ◌≤◌, length}
use Rattle.ob_lex.proofs.ScannedSoFar.{IsScannedTo}
use Rattle.ob_lex.proofs.scanner.lex.Given as goal

abbrev pub invariant-loop-rest : goal.invariant-loop-rest
invariant-loop-rest l = record {
  scanned : IsScannedTo l.bytes l.rest l.tokens.items l.count;
  fewer : l.count + length l.rest ≤ length l.bytes;
}

abbrev pub decreases-loop-rest : goal.decreases-loop-rest
decreases-loop-rest l = length l.rest
