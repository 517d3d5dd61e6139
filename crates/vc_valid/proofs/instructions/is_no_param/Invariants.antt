use Rattle.std.proofs.Common.{◌≡◌, ◌≤◌, ◌<◌, ℕ, Some}
use Rattle.std.specs.List.{slice_get}
use Rattle.pra_base.specs.declared.code.VarKind.TheVariants.{Param}
use Rattle.vc_valid.proofs.instructions.is_no_param.Given as goal

abbrev pub invariant-loop-var : goal.invariant-loop-var
invariant-loop-var l = (w : ℕ) → l.from ≤ w → w < l.var → slice_get l.vars w ≡
    Some (Param l.argument) → ⊥
