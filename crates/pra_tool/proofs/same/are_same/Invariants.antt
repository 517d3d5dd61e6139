use Rattle.std.proofs.Common.{◌≡◌, take}
use Rattle.pra_tool.proofs.same.are_same.Given as goal

abbrev pub invariant-loop-index : goal.invariant-loop-index
invariant-loop-index g l = take l.index l.list ≡ take l.index l.that
