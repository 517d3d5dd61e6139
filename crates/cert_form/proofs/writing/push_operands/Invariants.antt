use Rattle.std.proofs.Common.{◌≡◌, ◌++◌, map, take, drop}
use Rattle.serde_json.specs.View.{view}
use Rattle.pra_list.specs.Each.{Each}
use Rattle.cert_form.specs.Form.{operand_data}
use Rattle.cert_form.specs.Whole.{OperandFits}
use Rattle.cert_form.proofs.writing.push_operands.Given as goal

abbrev pub invariant-loop-operand : goal.invariant-loop-operand
invariant-loop-operand l = record {
  values : map view l.values.items
      ≡ map view l.initial.values.items ++ map operand_data (take l.operand-index l.operands);
  range : Each OperandFits (drop l.operand-index l.operands) → Each OperandFits l.operands;
}
