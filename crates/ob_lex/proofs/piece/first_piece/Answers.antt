use Rattle.std.proofs.Common.{◌∷◌, [], sym, ◌∙◌}
use Rattle.std.proofs.lemmas.List.{take_rest}
use Rattle.std.proofs.lemmas.Bool.Decides.{Decides-eqb}
use Rattle.std.proofs.lemmas.Slice.Eq.{strip_prefix_is}
use Rattle.ob_syntax.specs.Tokens.{bad_byte}
use Rattle.ob_lex.proofs.FirstPiece.{comment_begins, space_begins, told}
use Rattle.ob_lex.proofs.piece.first_piece.Goals as goal

pub returns-in-Some-behind_comment : goal.returns-in-Some-behind_comment
returns-in-Some-behind_comment c =
    let text = c.args.text.now in
    comment_begins text c.in-Some.inside.now c.in-Some-behind_comment.rest.now
    (rw (c.in-Some.is) at (strip_prefix_is Decides-eqb text (40 ∷ (42 ∷ []))
    c.strip_prefix.result c.strip_prefix.ensures.cases)) c.in-Some-behind_comment.ensures

pub returns-then-is_space : goal.returns-then-is_space
returns-then-is_space c = rw (take_rest c.args.text.now 1)
    (space_begins c.args.text.now c.requires (sym c.is_space.ensures ∙ c.if-is_space.true))

pub returns-else-is_ascii_digit : goal.returns-else-is_ascii_digit
returns-else-is_ascii_digit c = rw (c.ok_or-else-is_ascii_digit.ensures.value)
    (told c.args.text.now c.args.at bad_byte c.symbol.result c.symbol.ensures)
