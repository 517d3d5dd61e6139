use Rattle.std.proofs.Common.{◌≡◌, max, length}
use Rattle.net_form.specs.Index.{var_count}
use Rattle.net_build.proofs.index.var_count.Given as goal

abbrev pub invariant-loop-rest : goal.invariant-loop-rest
invariant-loop-rest l = max l.count (var_count l.rest) ≡ var_count l.strands

abbrev pub decreases-loop-rest : goal.decreases-loop-rest
decreases-loop-rest l = length l.rest
