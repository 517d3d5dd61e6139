use Rattle.ob_lex.proofs.FirstPiece.{known_pair}
use Rattle.ob_lex.proofs.piece.pair_kind.Goals as goal

pub returns-else-text-lt2 : goal.returns-else-text-lt2
returns-else-text-lt2 c = known_pair c.args.text.now c.fixed_kind.result c.if-text-lt2.false
    c.fixed_kind.ensures
