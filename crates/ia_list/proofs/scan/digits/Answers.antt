use Rattle.std.proofs.Common.{◌≡◌, ◌-◌, length, take, drop, true, false, ◌∙◌, arith, rules}
use Rattle.std.proofs.Common.{length-drop}
use Rattle.std.specs.Prelude.{slice_index}
use Rattle.std.specs.Char.{is_ascii_digit}
use Rattle.std.proofs.lemmas.List.{take_all}
use Rattle.ia_list.proofs.DigitsRead.{ends, stops, goes_on, too_large}
use Rattle.ia_list.proofs.scan.digits.Goals as goal

pub returns-then-not-is_ascii_digit-clause-read : goal.returns-then-not-is_ascii_digit-clause-read
returns-then-not-is_ascii_digit-clause-read c =
    let rest = c.digits.rest.now in
    let is : is_ascii_digit (slice_index rest 0) ≡ false = first_of (cc, search rules, grind arith)
    in
    c.digits.invariant.0 ∙ stops c.digits.value rest (omega arith) is

pub returns-then-value-gt-GREATEST-clause-read : goal.returns-then-value-gt-GREATEST-clause-read
returns-then-value-gt-GREATEST-clause-read c =
    let rest = c.digits.rest.now in
    let is : is_ascii_digit (slice_index rest 0) ≡ true = first_of (cc, search rules, grind arith)
    in
    c.digits.invariant.0 ∙ too_large c.digits.value rest (omega arith) is (omega arith)

pub digits-preserved : goal.digits-preserved
digits-preserved c =
    let rest = c.digits.rest.now in
    let is : is_ascii_digit (slice_index rest 0) ≡ true = first_of (cc, search rules, grind arith)
    in
    let all : take (length rest - 1) (drop 1 rest) ≡ drop 1 rest =
    take_all _ _ (omega (arith, length-drop 1 rest)) in (
      rw all (c.digits.invariant.0 ∙ goes_on c.digits.value rest (omega arith) is (omega arith)),
      omega arith,
    )

pub returns-clause-read : goal.returns-clause-read
returns-clause-read c = c.digits.invariant.0 ∙ ends c.digits.value c.digits.rest.now (omega arith)
