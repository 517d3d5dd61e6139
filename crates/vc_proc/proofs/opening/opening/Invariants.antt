use Rattle.std.proofs.Common.{◌≡◌, ◌++◌, ◌-◌}
use Rattle.vc_proc.specs.Opening.{clearing, zeros}
use Rattle.vc_proc.proofs.opening.opening.Given as goal

-- what is done, with what is left, is the whole
abbrev pub invariant-loop-v : goal.invariant-loop-v
invariant-loop-v l = l.code.items ++ zeros l.v (l.end - l.v) ≡ clearing l.aggregates
    ++ zeros l.first (l.end - l.first)
