use Rattle.std.proofs.Common.{take}
use Rattle.vc_tidy.specs.Joined.{NoneMeet}
use Rattle.vc_tidy.proofs.meets.groups_meet.Given as goal

abbrev pub invariant-loop-v : goal.invariant-loop-v
invariant-loop-v l = NoneMeet l.code (take l.v-index l.one) l.other
