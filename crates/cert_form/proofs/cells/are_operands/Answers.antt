use Rattle.std.proofs.Common.{◌≡◌, ◌<◌, length, false, arith, rules}
use Rattle.pra_list.proofs.Truths.{true_false}
use Rattle.cert_form.specs.Form.{operand_data}
use Rattle.cert_form.specs.Streams.{cell_data}
use Rattle.cert_form.proofs.CellsTaken.{same_at}
use Rattle.cert_form.proofs.cells.are_operands.Goals as goal

pub returns-then-not-is_operand : goal.returns-then-not-is_operand
returns-then-not-is_operand c =
    let cells = c.args.cells.now in
    let operands = c.args.operands.now in
    let less : c.loop-at.at < length cells = search rules in
    let few : c.loop-at.at < length operands = grind arith in
    let off : c.is_operand.result ≡ false = search rules in (
      (λ t. absurd (cc)),
      (λ all. absurd (true_false c.is_operand.result
          (c.is_operand.ensures.1 (same_at cell_data operand_data cells operands c.loop-at.at _ _
          all less few)) off)),
    )
