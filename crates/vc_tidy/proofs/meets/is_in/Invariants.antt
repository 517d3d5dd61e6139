use Rattle.std.proofs.Common.{◌≡◌, false, take}
use Rattle.vc_live.specs.Equations.{named_in}
use Rattle.vc_tidy.proofs.meets.is_in.Given as goal

abbrev pub invariant-loop-role : goal.invariant-loop-role
invariant-loop-role l = named_in (take l.role-index l.roles) l.v ≡ false
