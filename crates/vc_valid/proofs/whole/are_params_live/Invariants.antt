use Rattle.std.proofs.Common.{◌≡◌, ℕ, true}
use Rattle.pra_base.specs.declared.code.VarKind.{VarKind}
use Rattle.pra_base.specs.declared.code.VarKind.TheVariants.{Param}
use Rattle.vc_live.specs.Rows.{live_at}
use Rattle.vc_valid.proofs.Loops.{HoldsAt}
use Rattle.vc_valid.proofs.whole.are_params_live.Given as goal

abbrev pub invariant-loop-var : goal.invariant-loop-var
invariant-loop-var l = HoldsAt (λ (v : ℕ) (kind : VarKind). live_at l.live v 0 0 ≡ true → (i : ℕ) ×
    (kind ≡ Param i)) l.code.vars l.var
