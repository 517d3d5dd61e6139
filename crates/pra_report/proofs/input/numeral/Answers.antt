use Rattle.std.proofs.Common.{rules, arith, ◌≡◌, true, sym, ◌∙◌}
use Rattle.std.specs.Prelude.{slice_index}
use Rattle.std.specs.Char.{is_ascii_digit}
use Rattle.pra_report.proofs.Digits.{too_large_next}
use Rattle.pra_report.proofs.input.numeral.Goals as goal

pub returns-then-value-most : goal.returns-then-value-most
returns-then-value-most c =
    let is : is_ascii_digit (slice_index c.digits.rest.now 0) ≡ true =
    first_of (cc, search rules, grind arith) in
    sym (c.digits.invariant.0
    ∙ too_large_next c.args.most c.digits.value c.digits.rest.now (omega arith) is (omega arith))
