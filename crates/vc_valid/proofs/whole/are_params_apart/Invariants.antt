use Rattle.std.proofs.Common.{◌≡◌, ◌<◌, ℕ, Some}
use Rattle.std.specs.List.{slice_get}
use Rattle.pra_base.specs.declared.code.VarKind.TheVariants.{Param}
use Rattle.vc_valid.proofs.whole.are_params_apart.Given as goal

abbrev pub invariant-loop-var : goal.invariant-loop-var
invariant-loop-var l = (v w i : ℕ) → v < l.var → v < w → slice_get l.vars v ≡ Some (Param i) →
    slice_get l.vars w ≡ Some (Param i) → ⊥
