use Rattle.std.proofs.Common.{◌≡◌, map, sym, ◌∙◌, bytes_eq}
use Rattle.std.proofs.lemmas.Slice.Eq.{bytes_eq-Decides}
use Rattle.cert_form.specs.Form.{operand_data}
use Rattle.cert_form.specs.Streams.{cell_data}
use Rattle.cert_form.proofs.CellsTaken.{agrees, behind_same, word_and_rest}
use Rattle.cert_form.proofs.cells.is_spelled.Goals as goal

pub returns : goal.returns
returns c =
    let a = c.as_bytes.result.now in
    let b = c.as_bytes-2.result.now in
    let w = c.args.word.now in
    let v = c.args.other.now in
    let same : w ≡ v = sym c.as_bytes.ensures.value
    ∙ (bytes_eq-Decides a b).0 (agrees (bytes_eq a b) c.if-ne.ensures)
    ∙ c.as_bytes-2.ensures.value in
    let cells = map cell_data c.args.cells.now in
    let operands = map operand_data c.args.operands.now in (
      (λ t. word_and_rest w v cells operands same (c.are_operands.ensures.0 t)),
      (λ e. c.are_operands.ensures.1 (behind_same w v cells operands e)),
    )
