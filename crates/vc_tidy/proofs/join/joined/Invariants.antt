use Rattle.std.proofs.Common.{◌≡◌, ◌++◌, drop}
use Rattle.vc_tidy.specs.Joined.{joined}
use Rattle.vc_tidy.proofs.join.joined.Given as goal

abbrev pub invariant-loop-instr : goal.invariant-loop-instr
invariant-loop-instr l = l.new.items ++ joined l.names (drop l.instr-index l.code) ≡
    joined l.names l.code
