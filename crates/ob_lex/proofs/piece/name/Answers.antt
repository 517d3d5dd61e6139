use Rattle.std.proofs.Common.{take, drop, ap, ◌∙◌, arith}
use Rattle.std.specs.Char.{is_ascii_alphanumeric}
use Rattle.std.proofs.lemmas.List.Sums.{prefix_len-le-length}
use Rattle.ob_lex.proofs.FirstPiece.{IsCut, name_begins}
use Rattle.ob_lex.proofs.piece.name.Goals as goal

pub split_at-requires : goal.split_at-requires
split_at-requires c = omega
    (arith, c.name_len.ensures, prefix_len-le-length is_ascii_alphanumeric c.args.text.now)

pub returns : goal.returns
returns c =
    let text = c.args.text.now in
    let parts = c.split_at.ensures in
    let cut : IsCut is_ascii_alphanumeric text c.split_at.result.0.now c.split_at.result.1.now =
    record {
      word_is = parts.front ∙ ap (λ n. take n text) c.name_len.ensures;
      rest_is = parts.back ∙ ap (λ n. drop n text) c.name_len.ensures;
    } in
    rw (c.unwrap_or-kind.ensures)
    (name_begins cut c.requires c.fixed_kind.result c.fixed_kind.ensures)
