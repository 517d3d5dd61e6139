-- How digits are read, a byte at a time.
use Rattle.std.proofs.Common.{◌≡◌, ℕ, ◌+◌, ◌-◌, ◌*◌, ◌≤◌, ◌<◌, true, false, List, [], ◌∷◌, length}
use Rattle.std.proofs.Common.{drop, Some, None, refl, arith}
use Rattle.std.specs.Prelude.{slice_index}
use Rattle.std.specs.Char.{is_ascii_digit}
use Rattle.std.proofs.lemmas.Bool.{le-ltb, lt-ltb}
use Rattle.ia_list.specs.Reading.{digits_at}

-- the value with one more digit behind
abbrev pub with_digit : ℕ → ℕ → ℕ
with_digit value b = value * 10 + (b - 48)

module _ (value b : ℕ) (bytes : List ℕ) where
  pub no_digit : is_ascii_digit b ≡ false → digits_at value (b ∷ bytes) ≡ Some (value, b ∷ bytes)
  unfolding digits_at
  no_digit e = rw e refl

  pub one_digit : is_ascii_digit b ≡ true → with_digit value b ≤ 2147483648 →
      digits_at value (b ∷ bytes) ≡ digits_at (with_digit value b) bytes
  unfolding digits_at
  one_digit e h = rw (e, le-ltb 2147483648 (with_digit value b) h) refl

-- The same, of bytes of which there are some.
module _ (value : ℕ) where
  pub ends : (bytes : List ℕ) → length bytes < 1 → digits_at value bytes ≡ Some (value, bytes)
  unfolding digits_at
  ends [] h = refl
  ends (b ∷ bytes) h = absurd (omega arith)

  pub stops : (bytes : List ℕ) → 1 ≤ length bytes → is_ascii_digit (slice_index bytes 0) ≡ false →
      digits_at value bytes ≡ Some (value, bytes)
  stops [] h e = absurd (omega arith)
  stops (b ∷ bytes) h e = no_digit value b bytes e

  pub goes_on : (bytes : List ℕ) → 1 ≤ length bytes → is_ascii_digit (slice_index bytes 0) ≡ true →
      with_digit value (slice_index bytes 0) ≤ 2147483648 →
      digits_at value bytes ≡ digits_at (with_digit value (slice_index bytes 0)) (drop 1 bytes)
  goes_on [] h e le = absurd (omega arith)
  goes_on (b ∷ bytes) h e le = one_digit value b bytes e le

  pub too_large : (bytes : List ℕ) → 1 ≤ length bytes →
      is_ascii_digit (slice_index bytes 0) ≡ true →
      2147483648 < with_digit value (slice_index bytes 0) → digits_at value bytes ≡ None
  unfolding digits_at
  too_large [] h e lt = absurd (omega arith)
  too_large (b ∷ bytes) h e lt = rw (e, lt-ltb 2147483648 (with_digit value b) lt) refl
