use Rattle.std.proofs.Common.{◌≡◌, pos, ◌-ℤ◌, ap, ◌∙◌, rules}
use Rattle.std.specs.Int.{w32, cast_signed, cast_unsigned}
use Rattle.std.proofs.lemmas.Int.{to_z-of_z}
use Rattle.pra_base.specs.Code.{kind_of}
use Rattle.vc_checks.proofs.Knowing.{copy_tells, check_tells, positive_tells, index_high}
use Rattle.vc_checks.proofs.known.told.Goals as goal

pub returns-in-Some : goal.returns-in-Some
returns-in-Some c =
    let low : cast_signed w32 (cast_unsigned w32 c.in-Some.fact.low) ≡ c.in-Some.fact.low =
    to_z-of_z w32 c.in-Some.fact.low (search rules) in
    let high : cast_signed w32 (cast_unsigned w32 c.in-Some.fact.high) ≡ c.in-Some.fact.high =
    to_z-of_z w32 c.in-Some.fact.high (search rules) in
    let knows = c.in-Some.ensures in
    rw c.in-Copy.is (copy_tells (kind_of c.args.code.now) c.args.known.now c.in-Copy.v c.in-Copy.s
    (cast_signed w32 (cast_unsigned w32 c.in-Some.fact.low))
    (cast_signed w32 (cast_unsigned w32 c.in-Some.fact.high)) c.changing-in-Some.result
    (rw (low, high) knows) c.changing-in-Some.ensures.is c.changing-in-Some.ensures.changes)

pub returns-else-limit-le0 : goal.returns-else-limit-le0
returns-else-limit-le0 c =
    let limit : cast_signed w32 (cast_unsigned w32 c.in-Check.limit) ≡ c.in-Check.limit =
    to_z-of_z w32 c.in-Check.limit (search rules) in
    let some = rw limit at c.if-limit-le0.false in
    let high : cast_signed w32 (cast_unsigned w32
    (cast_signed w32 (cast_unsigned w32 c.in-Check.limit) -ℤ pos 1)) ≡ c.in-Check.limit -ℤ pos 1 =
    ap (λ z. cast_signed w32 (cast_unsigned w32 (z -ℤ pos 1))) limit
    ∙ index_high c.in-Check.limit (search rules) some in
    rw c.in-Check.is (check_tells (kind_of c.args.code.now) c.args.known.now c.in-Check.v
    c.in-Check.limit
    (cast_signed w32 (cast_unsigned w32
    (cast_signed w32 (cast_unsigned w32 c.in-Check.limit) -ℤ pos 1)))
    c.narrowed.result high (c.narrowed.ensures (kind_of c.args.code.now)))

pub returns-in-CheckPos : goal.returns-in-CheckPos
returns-in-CheckPos c = rw c.in-CheckPos.is (positive_tells (kind_of c.args.code.now)
    c.args.known.now c.in-CheckPos.v c.narrowed-in-CheckPos.result
    (c.narrowed-in-CheckPos.ensures (kind_of c.args.code.now)))
