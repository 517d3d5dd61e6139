use Rattle.std.proofs.Common.{◌≡◌, ◌++◌, take}
use Rattle.vc_tidy.proofs.classes.extend.Given as goal

abbrev pub invariant-loop-v : goal.invariant-loop-v
invariant-loop-v l = l.group ≡ l.initial.group ++ take l.v-index l.more
