use Rattle.std.proofs.lemmas.List.{take_rest}
use Rattle.ob_lex.proofs.FirstPiece.{pair_begins, single_begins, bad_byte_begins}
use Rattle.ob_lex.proofs.piece.symbol.Goals as goal

pub returns-in-Some : goal.returns-in-Some
returns-in-Some c =
    let pair = c.in-Some.ensures in
    rw (take_rest c.args.text.now 2)
    (pair_begins c.args.text.now c.in-Some.kind (c.requires.some, c.requires.mark) pair.0
    pair.1)

pub returns-in_err-kind : goal.returns-in_err-kind
returns-in_err-kind c = rw (c.from_residual.ensures)
    (bad_byte_begins c.args.text.now (c.requires.some, c.requires.mark) c.in_default.ensures
    c.in_err-kind.ensures)

pub returns : goal.returns
returns c =
    rw (take_rest c.args.text.now 1)
    (single_begins c.args.text.now c.in_ok-kind.kind (c.requires.some, c.requires.mark)
    c.requires.no_comment c.in_default.ensures c.in_ok-kind.ensures)
