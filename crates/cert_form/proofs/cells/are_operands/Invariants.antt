use Rattle.std.proofs.Common.{◌≡◌, map, take}
use Rattle.cert_form.specs.Form.{operand_data}
use Rattle.cert_form.specs.Streams.{cell_data}
use Rattle.cert_form.proofs.cells.are_operands.Given as goal

abbrev pub invariant-loop-at : goal.invariant-loop-at
invariant-loop-at l =
    map cell_data (take l.at l.cells) ≡ map operand_data (take l.at l.operands)
