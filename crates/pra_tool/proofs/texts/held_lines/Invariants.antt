use Rattle.std.proofs.Common.{◌≡◌, ◌++◌, drop}
use Rattle.pra_tool.specs.Texts.{held_lines}
use Rattle.pra_tool.proofs.texts.held_lines.Given as goal

abbrev pub invariant-loop-number : goal.invariant-loop-number
invariant-loop-number l = l.text.items ++ held_lines l.number (drop l.number l.certs) ≡
    held_lines 0 l.certs
