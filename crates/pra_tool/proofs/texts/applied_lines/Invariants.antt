use Rattle.std.proofs.Common.{◌≡◌, ◌++◌, drop}
use Rattle.pra_tool.specs.Texts.{applied_lines}
use Rattle.pra_tool.proofs.texts.applied_lines.Given as goal

abbrev pub invariant-loop-number : goal.invariant-loop-number
invariant-loop-number l = l.text.items ++ applied_lines l.number (drop l.number l.procs) ≡
    applied_lines 0 l.procs
