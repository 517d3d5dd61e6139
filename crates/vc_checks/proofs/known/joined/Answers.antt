use Rattle.std.proofs.Common.{◌≡◌, rules}
use Rattle.std.specs.Int.{w32, cast_signed, cast_unsigned}
use Rattle.std.proofs.lemmas.Int.{to_z-of_z}
use Rattle.vc_checks.proofs.Knowing.{both_hold}
use Rattle.vc_checks.proofs.known.joined.Goals as goal

pub returns : goal.returns
returns c =
    let low : cast_signed w32 (cast_unsigned w32 c.larger-low.result) ≡ c.larger-low.result =
    to_z-of_z w32 c.larger-low.result (search rules) in
    let high : cast_signed w32 (cast_unsigned w32 c.smaller-high.result) ≡ c.smaller-high.result =
    to_z-of_z w32 c.smaller-high.result (search rules) in
    let one_low : cast_signed w32 (cast_unsigned w32 c.args.one.low) ≡ c.args.one.low =
    to_z-of_z w32 c.args.one.low (search rules) in
    let other_low : cast_signed w32 (cast_unsigned w32 c.args.other.low) ≡ c.args.other.low =
    to_z-of_z w32 c.args.other.low (search rules) in
    let one_high : cast_signed w32 (cast_unsigned w32 c.args.one.high) ≡ c.args.one.high =
    to_z-of_z w32 c.args.one.high (search rules) in
    let other_high : cast_signed w32 (cast_unsigned w32 c.args.other.high) ≡ c.args.other.high =
    to_z-of_z w32 c.args.other.high (search rules) in
    rw (low, high)
    (λ kind. both_hold kind c.args.one c.args.other c.larger-low.result c.smaller-high.result
    c.requires
    (λ z p q. c.larger-low.ensures z (rw one_low p) (rw other_low q))
    (λ z p q. c.smaller-high.ensures z (rw one_high p) (rw other_high q)))
