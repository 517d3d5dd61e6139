use Rattle.std.proofs.Common.{◌≡◌, refl, rules}
use Rattle.std.specs.Int.{w32, cast_signed, cast_unsigned}
use Rattle.std.proofs.lemmas.Int.{to_z-of_z}
use Rattle.pra_base.specs.Words.{sum32}
use Rattle.vc_checks.proofs.Knowing.{sum_between, bounds_by}
use Rattle.vc_checks.proofs.known.sum.Goals as goal

pub returns : goal.returns
returns c =
    let one = c.args.one in
    let other = c.args.other in
    let one_low : cast_signed w32 (cast_unsigned w32 one.low) ≡ one.low =
    to_z-of_z w32 one.low (search rules) in
    let one_high : cast_signed w32 (cast_unsigned w32 one.high) ≡ one.high =
    to_z-of_z w32 one.high (search rules) in
    let other_low : cast_signed w32 (cast_unsigned w32 other.low) ≡ other.low =
    to_z-of_z w32 other.low (search rules) in
    let other_high : cast_signed w32 (cast_unsigned w32 other.high) ≡ other.high =
    to_z-of_z w32 other.high (search rules) in
    let new_low : cast_signed w32 (cast_unsigned w32 c.in_ok-low.low) ≡ c.in_ok-low.low =
    to_z-of_z w32 c.in_ok-low.low (search rules) in
    let new_high : cast_signed w32 (cast_unsigned w32 c.in_ok-high.high) ≡ c.in_ok-high.high =
    to_z-of_z w32 c.in_ok-high.high (search rules) in
    let low_is = rw (one_low, other_low) at c.in_ok-low.ensures in
    let high_is = rw (one_high, other_high) at c.in_ok-high.ensures in (
      refl,
      rw (new_low, new_high) (bounds_by sum32 one other
          (record { var = c.args.var; low = c.in_ok-low.low; high = c.in_ok-high.high })
          (λ a b aw bw al ah bl bh. sum_between one other c.in_ok-low.low c.in_ok-high.high
          (search rules) (search rules) a b aw bw al ah bl bh low_is.1 high_is.1)),
    )
