use Rattle.std.proofs.Common.{◌≡◌, ℕ, ◌<◌, true, take}
use Rattle.vc_live.specs.Equations.{named_in}
use Rattle.vc_live.proofs.sized.roles_below.Given as goal

abbrev pub invariant-loop-role : goal.invariant-loop-role
invariant-loop-role l = (v : ℕ) → named_in (take l.role-index l.roles) v ≡ true → v < l.count
