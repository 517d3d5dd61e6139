use Rattle.std.proofs.Common.{ap, ◌∙◌, arith}
use Rattle.std.specs.Prelude.{pos, neg_ℤ}
use Rattle.std.specs.Int.{w32}
use Rattle.std.specs.Int.RustNames.{FitsSigned}
use Rattle.std.proofs.lemmas.Int.{ints, wrapping_sub_is}
use Rattle.std.proofs.Math.IntN.{+ℤ_idl}
use Rattle.ob_syntax.specs.Operators.{wrapped}
use Rattle.ob_values.proofs.operators.flip.Goals as goal

zero_fits : FitsSigned w32 (pos 0)
zero_fits = omega (arith, ints)

pub returns : goal.returns
returns c = wrapping_sub_is w32 (pos 0) c.args.x zero_fits c.ranges.x
    ∙ ap wrapped (+ℤ_idl (neg_ℤ c.args.x))
