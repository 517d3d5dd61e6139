use Rattle.std.proofs.Common.{◌≡◌, rules}
use Rattle.std.specs.Int.{w32, cast_signed, cast_unsigned}
use Rattle.std.proofs.lemmas.Int.{to_z-of_z}
use Rattle.pra_base.specs.Code.{kind_of}
use Rattle.vc_checks.proofs.Knowing.{constant_known, found_known}
use Rattle.vc_checks.proofs.known.range.Goals as goal

pub returns-in-Some : goal.returns-in-Some
returns-in-Some c =
    let same : cast_signed w32 (cast_unsigned w32 c.in-Some.n) ≡ c.in-Some.n =
    to_z-of_z w32 c.in-Some.n (search rules) in
    rw same (constant_known (kind_of c.args.code.now) c.args.known.now c.args.v.0 c.in-Some.n
    (search rules) c.in-Some.ensures.some)

pub returns-in-None : goal.returns-in-None
returns-in-None c = found_known (kind_of c.args.code.now) c.args.known.now c.args.v.0 c.find.result
    c.find.ensures
