-- Prices that are listed and put again are what they were.
use Rattle.std.proofs.Common.{◌≡◌, ℕ, zero, suc, ◌+◌, ◌≤◌, ℤ, pos, negsuc, ◌-ℤ◌, ◌≤ℤ◌}
use Rattle.std.proofs.Common.{List, [], ◌∷◌, length, replicate, set, All, refl, ap, ◌∙◌, arith}
use Rattle.std.proofs.lemmas.Int.{ints}
use Rattle.std.proofs.lemmas.List.Elements.{All-head, All-tail}
use Rattle.net_dual.specs.Priced.{most_price}
use Rattle.cert_check.specs.Listed.{AreCaps, AreTieNumbers, with_caps, with_tie_numbers}
use Rattle.cert_make.specs.Made.{caps_from, numbers_from}

-- ---- prices

abbrev IsMost : ℕ → Type 0
IsMost price = price ≤ most_price

-- they are listed as they have to be
pub are_caps : (count from at : ℕ) (prices : List ℕ) → from ≤ at → at + length prices ≤ count
    → All IsMost prices → AreCaps count from (caps_from at prices)
are_caps count from at [] after within most = tt
are_caps count from at (zero ∷ prices) after within most =
    are_caps count from (suc at) prices (omega (arith, after)) (omega (arith, within))
    (All-tail IsMost zero prices most)
are_caps count from at (suc price ∷ prices) after within most = (
  after,
  record {
    within = omega (arith, within);
    some = λ none. omega (arith, none);
    most = All-head IsMost (suc price) prices most;
  },
  are_caps count (suc at) (suc at) prices (omega arith) (omega (arith, within))
      (All-tail IsMost (suc price) prices most),
)

-- entries of later indexes leave the first price as it is
cap_before : (at first : ℕ) (rest prices : List ℕ)
    → with_caps (first ∷ rest) (caps_from (suc at) prices)
    ≡ first ∷ with_caps rest (caps_from at prices)
cap_before at first rest [] = refl
cap_before at first rest (zero ∷ prices) = cap_before (suc at) first rest prices
cap_before at first rest (suc price ∷ prices) =
    cap_before (suc at) first (set rest at (suc price)) prices

pub caps_again : (prices : List ℕ)
    → with_caps (replicate (length prices) 0) (caps_from 0 prices) ≡ prices
caps_again [] = refl
caps_again (zero ∷ prices) =
    cap_before 0 0 (replicate (length prices) 0) prices ∙ ap (λ rest. 0 ∷ rest) (caps_again prices)
caps_again (suc price ∷ prices) =
    cap_before 0 (suc price) (replicate (length prices) 0) prices
    ∙ ap (λ rest. suc price ∷ rest) (caps_again prices)

-- ---- numbers of ties

abbrev IsMostNumber : ℤ → Type 0
IsMostNumber number = number ≤ℤ pos most_price

abbrev IsLeastNumber : ℤ → Type 0
IsLeastNumber number = (pos 0 -ℤ pos most_price) ≤ℤ number

pub are_numbers : (count from at : ℕ) (numbers : List ℤ) → from ≤ at → at + length numbers ≤ count
    → All IsMostNumber numbers → All IsLeastNumber numbers
    → AreTieNumbers count from (numbers_from at numbers)
are_numbers count from at [] after within most least = tt
are_numbers count from at (pos zero ∷ numbers) after within most least =
    are_numbers count from (suc at) numbers (omega (arith, after)) (omega (arith, within))
    (All-tail IsMostNumber (pos zero) numbers most)
    (All-tail IsLeastNumber (pos zero) numbers least)
are_numbers count from at (pos (suc n) ∷ numbers) after within most least = (
  after,
  record {
    within = omega (arith, within);
    some = λ none. omega (arith, ints, none);
    most = All-head IsMostNumber (pos (suc n)) numbers most;
    least = All-head IsLeastNumber (pos (suc n)) numbers least;
  },
  are_numbers count (suc at) (suc at) numbers (omega arith) (omega (arith, within))
      (All-tail IsMostNumber (pos (suc n)) numbers most)
      (All-tail IsLeastNumber (pos (suc n)) numbers least),
)
are_numbers count from at (negsuc n ∷ numbers) after within most least = (
  after,
  record {
    within = omega (arith, within);
    some = λ none. omega (arith, ints, none);
    most = All-head IsMostNumber (negsuc n) numbers most;
    least = All-head IsLeastNumber (negsuc n) numbers least;
  },
  are_numbers count (suc at) (suc at) numbers (omega arith) (omega (arith, within))
      (All-tail IsMostNumber (negsuc n) numbers most)
      (All-tail IsLeastNumber (negsuc n) numbers least),
)

number_before : (at : ℕ) (first : ℤ) (rest numbers : List ℤ)
    → with_tie_numbers (first ∷ rest) (numbers_from (suc at) numbers)
    ≡ first ∷ with_tie_numbers rest (numbers_from at numbers)
number_before at first rest [] = refl
number_before at first rest (pos zero ∷ numbers) = number_before (suc at) first rest numbers
number_before at first rest (pos (suc n) ∷ numbers) =
    number_before (suc at) first (set rest at (pos (suc n))) numbers
number_before at first rest (negsuc n ∷ numbers) =
    number_before (suc at) first (set rest at (negsuc n)) numbers

pub numbers_again : (numbers : List ℤ)
    → with_tie_numbers (replicate (length numbers) (pos 0)) (numbers_from 0 numbers) ≡ numbers
numbers_again [] = refl
numbers_again (pos zero ∷ numbers) =
    number_before 0 (pos 0) (replicate (length numbers) (pos 0)) numbers
    ∙ ap (λ rest. pos 0 ∷ rest) (numbers_again numbers)
numbers_again (pos (suc n) ∷ numbers) =
    number_before 0 (pos (suc n)) (replicate (length numbers) (pos 0)) numbers
    ∙ ap (λ rest. pos (suc n) ∷ rest) (numbers_again numbers)
numbers_again (negsuc n ∷ numbers) =
    number_before 0 (negsuc n) (replicate (length numbers) (pos 0)) numbers
    ∙ ap (λ rest. negsuc n ∷ rest) (numbers_again numbers)
