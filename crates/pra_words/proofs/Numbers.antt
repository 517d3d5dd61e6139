-- What parse makes of a number.
use Rattle.std.proofs.Common.{rules, arith, ◌≡◌, ℕ, ◌≤◌, ◌<◌, true, List, length}
use Rattle.std.specs.declared.result.Result.{Result}
use Rattle.std.specs.declared.result.Result.TheVariants.{Ok}
use Rattle.std.specs.Str.{all_ascii_digits}
use Rattle.std.specs.Str.Parse.{digits_value, digits_value_after, ParsesUnsigned}
use Rattle.std.proofs.lemmas.Str.Parse.{IsNumeralModel, numerals_by_fold, parse_gives}
use Rattle.std.proofs.lemmas.Str.Parse.{digits_value_short}
use Rattle.pra_list.proofs.Choices.{and_true}
use Rattle.pra_words.specs.Words.{is_number}

numerals : IsNumeralModel (λ ds. all_ascii_digits ds ≡ true) (digits_value 10)
numerals = numerals_by_fold _ (search rules) (digits_value_after 10) (search rules)

pub parsed : {E : Type 0} (word : List ℕ) (r : Result ℕ E) → ParsesUnsigned 64 10 word r →
    all_ascii_digits word ≡ true → 0 < length word → length word ≤ 10 →
    r ≡ Ok (digits_value 10 word)
parsed word r p digits some few =
    parse_gives numerals 64 word r p digits some
    (omega (arith, digits_value_short numerals word 10 digits few))

pub number_parsed : {E : Type 0} (word : List ℕ) (r : Result ℕ E) → is_number word ≡ true →
    ParsesUnsigned 64 10 word r → r ≡ Ok (digits_value 10 word)
number_parsed word r is p =
    let whole = and_true _ _ is in
    let front = and_true _ _ whole.0 in
    parsed word r p front.0 (search (rules, arith, front.1)) (search (rules, arith, whole.1))
