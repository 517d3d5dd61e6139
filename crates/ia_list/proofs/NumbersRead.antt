-- Numbers that are written are read again.
use Rattle.std.proofs.Common.{◌≡◌, ℕ, suc, ◌+◌, ◌*◌, ◌/◌, ◌%◌, ◌^◌, ◌≤◌, ◌<◌, true, false, List, []}
use Rattle.std.proofs.Common.{◌∷◌, ◌++◌, Some, refl, ap, ◌∙◌, arith, append_assoc}
use Rattle.std.specs.Prelude.{ℤ, pos, negsuc, slice_index, ◌==◌}
use Rattle.std.specs.Char.{is_ascii_digit}
use Rattle.std.specs.Int.{w32}
use Rattle.std.specs.Int.RustNames.{FitsSigned}
use Rattle.std.specs.Fmt.{decimal, signed_decimal}
use Rattle.std.proofs.lemmas.Bool.{lt-ltb}
use Rattle.std.proofs.lemmas.Bool.Decides.{nat_tests}
use Rattle.std.proofs.lemmas.Fmt.{decimal_by_steps}
use Rattle.std.proofs.lemmas.Nat.{from_be_bytes-to_be_bytes_4}
use Rattle.ia_list.specs.Text.{hex_digit, hexadecimal}
use Rattle.ia_list.specs.Reading.{digits_at, number_at, hex_value, pair_at, hexadecimal_at}
use Rattle.ia_list.proofs.DigitsRead.{with_digit, no_digit, one_digit}

-- Decimal digits.

digit_is : (d : ℕ) → d < 10 → is_ascii_digit (48 + d) ≡ true
digit_is d h = grind (arith, nat_tests)

-- what the digits of n add to 0 is n
Adds : ℕ → List ℕ → Type 0
Adds n ds = n ≤ 2147483648 → (rest : List ℕ) → digits_at 0 (ds ++ rest) ≡ digits_at n rest

adds_one : (n : ℕ) → n < 10 → Adds n ((48 + n) ∷ [])
unfolding Adds
adds_one n h le rest =
    let same : with_digit 0 (48 + n) ≡ n = omega arith in
    one_digit 0 (48 + n) rest (digit_is n h) (omega arith) ∙ ap (λ v. digits_at v rest) same

adds_more : (n : ℕ) (ds : List ℕ) → 10 ≤ n → Adds (n / 10) ds → Adds n (ds ++ ((48 + n % 10) ∷ []))
unfolding Adds
adds_more n ds h before le rest =
    let same : with_digit (n / 10) (48 + n % 10) ≡ n = omega arith in
    ap (digits_at 0) (append_assoc ds ((48 + n % 10) ∷ []) rest)
    ∙ before (omega arith) ((48 + n % 10) ∷ rest)
    ∙ one_digit (n / 10) (48 + n % 10) rest (digit_is (n % 10) (omega arith)) (omega arith)
    ∙ ap (λ v. digits_at v rest) same

decimal_adds : (n : ℕ) → n < 2 ^ 64 → Adds n (decimal n)
decimal_adds = decimal_by_steps Adds adds_one adds_more

module _ (c : ℕ) (rest : List ℕ) (is : is_ascii_digit c ≡ false) where
  pub decimal_read : (n : ℕ) → n ≤ 2147483648 →
      digits_at 0 (decimal n ++ c ∷ rest) ≡ Some (n, c ∷ rest)
  unfolding Adds
  decimal_read n h = decimal_adds n (omega arith) h (c ∷ rest) ∙ no_digit n c rest is

-- no number without a sign begins with a minus
Plain : ℕ → List ℕ → Type 0
Plain n ds = (rest : List ℕ) → (slice_index (ds ++ rest) 0 == 45) ≡ false

plain_one : (n : ℕ) → n < 10 → Plain n ((48 + n) ∷ [])
unfolding Plain
plain_one n h rest = grind (arith, nat_tests)

plain_more : (n : ℕ) (ds : List ℕ) → 10 ≤ n → Plain (n / 10) ds →
    Plain n (ds ++ ((48 + n % 10) ∷ []))
unfolding Plain
plain_more n ds h before rest =
    ap (λ l. slice_index l 0 == 45) (append_assoc ds ((48 + n % 10) ∷ []) rest)
    ∙ before ((48 + n % 10) ∷ rest)

decimal_plain : (n : ℕ) → n < 2 ^ 64 → Plain n (decimal n)
decimal_plain = decimal_by_steps Plain plain_one plain_more

module _ (c : ℕ) (rest : List ℕ) (is : is_ascii_digit c ≡ false) where
  plain_read : (n : ℕ) → n < 2147483648 → number_at (decimal n ++ c ∷ rest) ≡ Some (pos n, c ∷ rest)
  unfolding number_at Plain
  plain_read n h =
      rw (
        decimal_plain n (omega arith) (c ∷ rest),
        decimal_read c rest is n (omega arith),
        lt-ltb n 2147483648 h,
      ) refl

  minus_read : (n : ℕ) → n < 2147483648 →
      number_at (45 ∷ (decimal (suc n) ++ c ∷ rest)) ≡ Some (negsuc n, c ∷ rest)
  unfolding number_at
  minus_read n h = rw (decimal_read c rest is (suc n) (omega arith)) refl

  pub number_read : (n : ℤ) → FitsSigned w32 n →
      number_at (signed_decimal n ++ c ∷ rest) ≡ Some (n, c ∷ rest)
  number_read (pos n) f = plain_read n (omega arith)
  number_read (negsuc n) f = minus_read n (omega arith)

-- Hexadecimal digits.

hex_read : (d : ℕ) → d < 16 → hex_value (hex_digit d) ≡ Some d
hex_read d h = grind (arith, nat_tests)

pair_read : (b : ℕ) (rest : List ℕ) → b < 256 →
    pair_at (hex_digit (b / 16) ∷ hex_digit (b % 16) ∷ rest) ≡ Some (b, rest)
unfolding pair_at
pair_read b rest h =
    let same : 16 * (b / 16) + b % 16 ≡ b = omega arith in
    rw (hex_read (b / 16) (omega arith), hex_read (b % 16) (omega arith))
    (ap (λ n. Some (n, rest)) same)

pub hexadecimal_read : (n : ℕ) (rest : List ℕ) → n < 2 ^ 32 →
    hexadecimal_at (hexadecimal n ++ rest) ≡ Some (n, rest)
unfolding hexadecimal_at
hexadecimal_read n rest h =
    rw (
      pair_read (n / 16777216 % 256) _ (omega arith),
      pair_read (n / 65536 % 256) _ (omega arith),
      pair_read (n / 256 % 256) _ (omega arith),
      pair_read (n % 256) rest (omega arith),
    )
    (ap (λ k. Some (k, rest)) (from_be_bytes-to_be_bytes_4 n h))
