use Rattle.std.proofs.Common.{◌≡◌, take}
use Rattle.vc_code.proofs.row.listed.Given as goal

abbrev pub invariant-loop-role : goal.invariant-loop-role
invariant-loop-role g l = l.row.items ≡ take l.role-index l.roles
