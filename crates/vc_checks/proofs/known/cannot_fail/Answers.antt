use Rattle.std.proofs.Common.{◌≡◌, rules}
use Rattle.std.specs.Int.{w32, cast_signed, cast_unsigned}
use Rattle.std.proofs.lemmas.Int.{to_z-of_z}
use Rattle.pra_base.specs.Code.{kind_of}
use Rattle.vc_code.specs.Selected.{read}
use Rattle.vc_checks.specs.Facts.CannotFail.{index, positive}
use Rattle.vc_checks.proofs.known.cannot_fail.Goals as goal

pub returns-in-Some : goal.returns-in-Some
returns-in-Some c =
    let limit : cast_signed w32 (cast_unsigned w32 c.in-Check.limit) ≡ c.in-Check.limit =
    to_z-of_z w32 c.in-Check.limit (search rules) in
    let knows = c.in-Some.ensures in
    let fits = rw limit at c.fits_index.ensures in
    rw c.in-Check.is (λ e. index (λ held all. fits e
    (read (kind_of c.args.code.now) held c.in-Check.v.0) (knows held all)))

pub returns-in-Some-range : goal.returns-in-Some-range
returns-in-Some-range c =
    let knows = c.in-Some-range.ensures in
    rw c.in-CheckPos.is (λ e. positive (λ held all. c.fits_divisor.ensures e
    (read (kind_of c.args.code.now) held c.in-CheckPos.v.0) (knows held all)))
