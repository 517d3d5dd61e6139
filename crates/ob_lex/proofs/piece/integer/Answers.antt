use Rattle.std.proofs.Common.{◌+◌, ◌-◌, ◌*◌, ℕ, arith}
use Rattle.std.proofs.lemmas.List.Sums.{fold_more}
use Rattle.ob_lex.proofs.FirstPiece.{large_front}
use Rattle.ob_lex.proofs.piece.integer.Goals as goal

pub returns-then-value-gt-GREATEST : goal.returns-then-value-gt-GREATEST
returns-then-value-gt-GREATEST c =
    let step = fold_more (λ (n digit : ℕ). 10 * n + (digit - 48)) 0 c.args.digits.now
    c.loop-digit.digit-index 0 c.loop-digit-test.true in
    large_front (c.loop-digit.digit-index + 1) c.args.digits.now
    (omega (
      arith,
      step,
      c.loop-digit.invariant.so_far,
      c.from.ensures,
      c.if-value-gt-GREATEST.true,
    ))
