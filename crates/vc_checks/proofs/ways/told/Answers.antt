use Rattle.std.proofs.Common.{◌≡◌, ◌⊎◌, inl, inr, pos, ◌≤ℤ◌, arith, rules}
use Rattle.std.specs.Int.{w32, cast_signed, cast_unsigned}
use Rattle.std.proofs.lemmas.Int.{ints, to_z-of_z}
use Rattle.pra_list.specs.Among.{Among}
use Rattle.pra_base.specs.Code.{kind_of}
use Rattle.vc_checks.specs.declared.fact.Fact.{Fact}
use Rattle.vc_checks.proofs.Leaving.{compared_tells}
use Rattle.vc_checks.proofs.ways.told.Goals.{else-low-lt0-via-then-low-lt0+else-not-is_known}
use Rattle.vc_checks.proofs.ways.told.Goals.{else-low-lt0-via-else-low-lt0}
use Rattle.vc_checks.proofs.ways.told.Goals as goal

pub returns : goal.returns
returns c =
    let span = c.limits-low.result in
    let low : cast_signed w32 (cast_unsigned w32 span.low) ≡ span.low =
    to_z-of_z w32 span.low (search rules) in
    let high : cast_signed w32 (cast_unsigned w32 span.high) ≡ span.high =
    to_z-of_z w32 span.high (search rules) in
    let tells = c.narrowed.ensures (kind_of c.args.code.now) in
    let why : (pos 0 ≤ℤ span.low)
    ⊎ ((f : Fact) × Among f c.args.known.now × (f.var.0 ≡ c.args.holds.one.0)) =
    elim c.else-low-lt0.branch [
      | else-low-lt0-via-then-low-lt0+else-not-is_known w ↦
          inr (w.is_known.ensures w.if-not-is_known.false)
      | else-low-lt0-via-else-low-lt0 w ↦
          let not_below = rw low at w.if-low-lt0.false in inl (grind (arith, ints))
    ] in
    compared_tells (kind_of c.args.code.now) c.args.known.now c.args.holds c.bounds.result span
    c.narrowed.result c.bounds.ensures c.limits-low.ensures (rw (low, high) at tells) why
