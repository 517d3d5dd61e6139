use Rattle.std.proofs.Common.{◌≡◌, fold, map, take}
use Rattle.pra_base.specs.Operands.{meets, widened}
use Rattle.vc_code.specs.Rows.{roles_of, line_of}
use Rattle.vc_code.proofs.row.meet_reads.Given as goal

abbrev pub invariant-loop-role : goal.invariant-loop-role
invariant-loop-role l = l.mask ≡ fold (meets l.var.0) l.start
    (map (widened (line_of l.line)) (roles_of (take l.role-index l.role-items)))
