use Rattle.vc_live.proofs.SizedLemmas.{Holds}
use Rattle.vc_valid.specs.Rules.{IsConstantOf}
use Rattle.vc_valid.proofs.instructions.avoid_constants.Given as goal

abbrev pub invariant-loop-role : goal.invariant-loop-role
invariant-loop-role l = Holds (λ r. IsConstantOf l.vars r.var.0 → ⊥) l.roles l.role-index
