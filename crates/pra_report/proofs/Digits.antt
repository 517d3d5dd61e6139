-- The value of digits, read one after the other.
use Rattle.std.proofs.Common.{◌≡◌, ℕ, ◌+◌, ◌-◌, ◌*◌, ◌<◌, ◌≤◌, Bool, true, false, Some, None, List}
use Rattle.std.proofs.Common.{[], ◌∷◌, length, refl, arith, cond, ◌&&◌, ◌∙◌}
use Rattle.std.specs.Prelude.{nat_le, slice_index}
use Rattle.std.specs.Char.{is_ascii_digit, digit_value}
use Rattle.std.specs.Str.{all_ascii_digits}
use Rattle.std.specs.Str.Parse.{digits_value_after}
use Rattle.std.proofs.lemmas.Bool.Decides.{nat_tests}
use Rattle.pra_report.specs.Input.{digits_on, numeral}

-- at least one digit, none read yet
pub begins : (most : ℕ) (ds : List ℕ) → 0 < length ds → numeral most ds ≡ digits_on most 0 ds
begins most [] some = absurd (omega arith)
begins most (d ∷ ds) some = refl

first_false : (a b c : Bool) (n : ℕ) → a ≡ false → cond ((a && b) && c) (Some n) None ≡ None
first_false true b c n e = cc
first_false false b c n e = refl

second_false : (b c : Bool) (n : ℕ) → c ≡ false → cond (b && c) (Some n) None ≡ None
second_false true true n e = cc
second_false true false n e = refl
second_false false c n e = refl

pub not_a_digit : (most value d : ℕ) (ds : List ℕ) → is_ascii_digit d ≡ false →
    digits_on most value (d ∷ ds) ≡ None
not_a_digit most value d ds e =
    first_false (is_ascii_digit d) (all_ascii_digits ds)
    (nat_le (digits_value_after 10 value (d ∷ ds)) most) _ e

pub value_of_digit : (d : ℕ) → is_ascii_digit d ≡ true → digit_value d ≡ d - 48
value_of_digit d e = grind (arith, nat_tests)

pub one_digit : (most value d : ℕ) (ds : List ℕ) → is_ascii_digit d ≡ true →
    digits_on most value (d ∷ ds) ≡ digits_on most (value * 10 + (d - 48)) ds
one_digit most value d ds e = rw (e, value_of_digit d e) refl

at_least : (value : ℕ) (ds : List ℕ) → value ≤ digits_value_after 10 value ds
at_least value [] = omega arith
at_least value (d ∷ ds) = omega (arith, at_least (value * 10 + digit_value d) ds)

pub too_large : (most value : ℕ) (ds : List ℕ) → most < value → digits_on most value ds ≡ None
too_large most value ds above =
    second_false (all_ascii_digits ds) (nat_le (digits_value_after 10 value ds) most) _
    (let least : most < digits_value_after 10 value ds = omega (arith, at_least value ds) in
    grind (arith, nat_tests))

pub all_read : (most value : ℕ) → value ≤ most → digits_on most value [] ≡ Some value
all_read most value within = grind (arith, nat_tests)

pub too_large_next : (most value : ℕ) (rest : List ℕ) → 1 ≤ length rest →
    is_ascii_digit (slice_index rest 0) ≡ true → most < value * 10 + (slice_index rest 0 - 48) →
    digits_on most value rest ≡ None
too_large_next most value [] some is above = absurd (omega arith)
too_large_next most value (d ∷ ds) some is above =
    one_digit most value d ds is ∙ too_large most (value * 10 + (d - 48)) ds above
