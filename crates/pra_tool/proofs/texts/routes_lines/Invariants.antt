use Rattle.std.proofs.Common.{◌≡◌, ◌++◌, drop}
use Rattle.pra_tool.specs.Texts.{routes_lines}
use Rattle.pra_tool.proofs.texts.routes_lines.Given as goal

abbrev pub invariant-loop-line : goal.invariant-loop-line
invariant-loop-line l = l.text.items ++ routes_lines (drop l.line-index l.lines) ≡
    routes_lines l.lines
