use Rattle.std.proofs.Common.{sym, subst, to_z-of_z}
use Rattle.pra_base.specs.declared.code.VProc.{VProc}
use Rattle.vc_build.specs.Grow.{IsOpen}
use Rattle.vc_select.proofs.constant.constant.Goals as goal

pub returns-clause-made : goal.returns-clause-made
returns-clause-made c = let fits = c.ranges.n in (simp to_z-of_z at c.in_ok-v.ensures.made)

pub returns-clause-open : goal.returns-clause-open
returns-clause-open c = λ b o. subst (λ (z : VProc). IsOpen z b) (sym c.in_ok-v.ensures.made) o
