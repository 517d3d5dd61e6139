use Rattle.std.proofs.Common.{◌≡◌, fold, length}
use Rattle.pra_base.specs.Operands.{meets}
use Rattle.vc_code.specs.Rows.{roles_of}
use Rattle.net_build.proofs.beside.met_mask.Given as goal

abbrev pub invariant-loop-rest : goal.invariant-loop-rest
invariant-loop-rest l = fold (meets l.var) l.mask (roles_of l.rest) ≡ fold (meets l.var) l.own
    (roles_of l.roles)

abbrev pub decreases-loop-rest : goal.decreases-loop-rest
decreases-loop-rest l = length l.rest
