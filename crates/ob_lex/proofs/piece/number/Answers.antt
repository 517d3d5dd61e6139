use Rattle.std.proofs.Common.{take, drop, ap, ◌∙◌, arith}
use Rattle.std.specs.Char.{is_ascii_digit}
use Rattle.std.proofs.lemmas.List.Sums.{prefix_len-le-length}
use Rattle.ob_lex.proofs.FirstPiece.{IsCut, digits_cut, number_begins, number_too_large_begins}
use Rattle.ob_lex.proofs.piece.number.Goals as goal
use Rattle.ob_lex.proofs.piece.number.Goals.{After-split_at}

cut_here : (c : After-split_at) → IsCut is_ascii_digit c.args.text.now c.split_at.result.0.now
    c.split_at.result.1.now
cut_here c = record {
  word_is = c.split_at.ensures.front ∙ ap (λ n. take n c.args.text.now) c.digits_len.ensures;
  rest_is = c.split_at.ensures.back ∙ ap (λ n. drop n c.args.text.now) c.digits_len.ensures;
}

pub split_at-requires : goal.split_at-requires
split_at-requires c = omega
    (arith, c.digits_len.ensures, prefix_len-le-length is_ascii_digit c.args.text.now)

pub integer-requires : goal.integer-requires
integer-requires c = digits_cut c.args.text.now c.split_at.result.0.now
    (c.split_at.ensures.front ∙ ap (λ n. take n c.args.text.now) c.digits_len.ensures)

pub returns-in_err-value : goal.returns-in_err-value
returns-in_err-value c =
    rw (c.from_residual.ensures)
    (number_too_large_begins (cut_here (goal.at.returns-in_err-value c).After-split_at) c.requires
    c.in_err-value.ensures)

pub returns : goal.returns
returns c =
    let small = c.in_ok-value.ensures in
    number_begins (cut_here (goal.at.returns c).After-split_at) c.requires c.in_ok-value.value
    small.0 small.1
