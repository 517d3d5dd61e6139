use Rattle.std.proofs.Common.{◌≡◌, fold, take}
use Rattle.pra_base.specs.Operands.{meets}
use Rattle.vc_code.specs.Rows.{roles_of}
use Rattle.vc_code.proofs.row.meet_writes.Given as goal

abbrev pub invariant-loop-role : goal.invariant-loop-role
invariant-loop-role l = l.mask ≡ fold (meets l.var.0) l.start (roles_of (take l.role-index l.roles))
