use Rattle.std.proofs.Common.{◌≡◌, ◌≤◌, take}
use Rattle.ob_syntax.specs.Tokens.{integer_value, greatest_integer}
use Rattle.ob_lex.proofs.piece.integer.Given as goal

abbrev pub invariant-loop-digit : goal.invariant-loop-digit
invariant-loop-digit l = record {
  so_far : l.value ≡ integer_value (take l.digit-index l.digits);
  small : l.value ≤ greatest_integer;
}
