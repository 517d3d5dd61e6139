use Rattle.std.proofs.Common.{◌≡◌, ℕ, ◌<◌}
use Rattle.pra_base.specs.declared.code.VarKind.TheVariants.{Param}
use Rattle.vc_live.proofs.SizedLemmas.{Holds}
use Rattle.vc_live.proofs.sized.are_params_in_range.Given as goal

abbrev pub invariant-loop-kind : goal.invariant-loop-kind
invariant-loop-kind l = Holds (λ k. (i : ℕ) → k ≡ Param i → i < l.args) l.vars l.kind-index
