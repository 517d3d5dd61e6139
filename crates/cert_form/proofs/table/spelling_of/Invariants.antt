use Rattle.std.proofs.Common.{◌≡◌, take}
use Rattle.cert_form.proofs.table.spelling_of.Given as goal

abbrev pub invariant-loop-operand : goal.invariant-loop-operand
invariant-loop-operand l = l.listed.items ≡ take l.operand-index l.operands
