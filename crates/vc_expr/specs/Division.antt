-- What the code of DIV and MOD does, part by part. The machine divides by a positive number,
-- rounding toward zero.
use Rattle.std.specs.Prelude.{◌≡◌, ◌≢◌, ℕ, ◌<◌, ◌^◌, ℤ, pos, ◌+ℤ◌, ◌<ℤ◌, bit_and}
use Rattle.std.specs.Prelude.{int_lt, int_le, int_div, int_rem, Bool, true, false, if◌then◌else◌}
use Rattle.std.specs.Prelude.{Result, Ok, Err, length}
use Rattle.pra_base.specs.declared.event.TrapKind.{TrapKind}
use Rattle.pra_base.specs.declared.event.TrapKind.TheVariants.{Divide}
use Rattle.pra_base.specs.declared.ids.ShiftOp.{ShiftOp}
use Rattle.pra_base.specs.declared.code.VarKind.{VarKind}
use Rattle.pra_base.specs.declared.code.VarKind.TheVariants.{Constant}
use Rattle.pra_base.specs.declared.code.VProc.{VProc}
use Rattle.pra_base.specs.Words.{word, signed, shifted, floored_quotient, floored_remainder}
use Rattle.ob_syntax.specs.Operators.{Outcome, number, wrapped}
use Rattle.ob_syntax.specs.declared.checked.ROp.{ROp}
use Rattle.ob_syntax.specs.declared.checked.ROp.TheVariants.{Div, Mod}
use Rattle.ob_syntax.specs.declared.checked.Value.{Value}
use Rattle.ob_syntax.specs.declared.checked.Value.TheVariants.{Number, Truth}
use Rattle.vc_code.specs.Machine.{Activation, State}
use Rattle.vc_code.specs.Selected.{Vars}
use Rattle.vc_build.specs.Grow.{IsOpen, GrowsAt}
use Rattle.vc_build.specs.Runs.{Codes, Stands, RunsIn, SameBelow, Reaches, Yields}
use Rattle.vc_expr.specs.declared.division.Parts.{Parts}
use Rattle.vc_expr.specs.Operators.{Adds, HasValue, Gives}
use Rattle.vc_expr.specs.Readable.{Entries, usable, Certifies, Publishes}

abbrev pub is_division : ROp → Bool
is_division Div = true
is_division Mod = true
is_division _ = false

-- a divisor is tested unless it is known to be positive
abbrev pub is_tested : VarKind → Bool
is_tested (Constant n) = int_le n (pos 0)
is_tested _ = true

-- the trap of a divisor that is not positive
abbrev pub positive : ℤ → Result (Unit {0}) TrapKind
positive d = if int_lt (pos 0) d then Ok tt else Err Divide

-- The call stands behind what was made, and its variables below a number are as they were.
pub record Stays (made : VProc) (b n : ℕ) (old new : Activation Vars) : Type 0 where
  pub stands : Stands made b new
  pub same : SameBelow n old new

-- The added code goes on where the divisor is positive, and else traps.
pub record Checks (at : ℕ) (old new : VProc) (divisor : ℕ) : Type 0 where
  pub grows : GrowsAt at old new
  pub is_open : IsOpen new at
  pub vars : new.vars ≡ old.vars
  pub means : (w : Codes) (id : ℕ) (s : State Vars) (d : Value) → RunsIn w id new s →
      Stands old at s.top → HasValue w id divisor s.top d →
      Yields w s (λ ok c. Stays new at (length old.vars) s.top c) (positive (number d))

-- quotient and remainder, rounded toward zero
pub record HoldsParts (w : Codes) (id q r : ℕ) (x d : ℤ) (c : Activation Vars) : Type 0 where
  pub quotient : HasValue w id q c (Number (int_div x d))
  pub remainder : HasValue w id r c (Number (int_rem x d))

-- The added code divides by a positive number.
pub record Divides (at : ℕ) (old new : VProc) (dividend divisor quotient remainder : ℕ)
    : Type 0 where
  pub left : Adds (length old.vars) at old new quotient
  pub right : Adds (length old.vars) at old new remainder
  pub below : quotient < remainder
  pub means : (w : Codes) (id : ℕ) (s : State Vars) (x d : Value) → RunsIn w id new s →
      Stands old at s.top → HasValue w id dividend s.top x → HasValue w id divisor s.top d →
      pos 0 <ℤ number d →
      Reaches w s (λ c. Stays new at (length old.vars) s.top c ×
      HoldsParts w id quotient remainder (number x) (number d) c)

-- The same, of any divisor, and whether the remainder is negative. A divisor that is not positive
-- traps.
pub record Splits (at : ℕ) (old new : VProc) (dividend divisor : ℕ) (parts : Parts) : Type 0 where
  pub quotient : Adds (length old.vars) at old new parts.quotient.0
  pub remainder : Adds (length old.vars) at old new parts.remainder.0
  pub negative : Adds (length old.vars) at old new parts.negative.0
  pub apart : parts.quotient.0 < parts.remainder.0
  pub last : parts.remainder.0 < parts.negative.0
  pub means : (w : Codes) (id : ℕ) (s : State Vars) (x d : Value) → RunsIn w id new s →
      Stands old at s.top → HasValue w id dividend s.top x → HasValue w id divisor s.top d →
      Yields w s
      (λ ok c. Stays new at (length old.vars) s.top c ×
      HoldsParts w id parts.quotient.0 parts.remainder.0 (number x) (number d) c ×
      HasValue w id parts.negative.0 c (Truth (int_lt (int_rem (number x) (number d)) (pos 0))))
      (positive (number d))

-- ---- bits

-- whatever the sides are
abbrev pub AnySides : Value → Value → Type 0
AnySides x y = Unit {0}

-- the number whose word has the bits that two words have in common
abbrev pub common_bits : ℤ → ℤ → ℤ
common_bits x y = signed (bit_and (word x) (word y))

abbrev pub in_common : Value → Value → Outcome
in_common x y = Ok (Number (common_bits (number x) (number y)))

-- ---- the remainder that is rounded down

-- The added code gives the remainder, and the divisor more where it is negative.
pub record Rounds (first at : ℕ) (old new : VProc) (remainder negative divisor v : ℕ) : Type 0 where
  pub adds : Adds first at old new v
  pub means : (w : Codes) (id : ℕ) (s : State Vars) (r d : Value) (b : Bool) → RunsIn w id new s →
      Stands old at s.top → HasValue w id remainder s.top r →
      HasValue w id negative s.top (Truth b) → HasValue w id divisor s.top d →
      Reaches w s (Gives w id new at v first s.top
      (Number (wrapped (number r +ℤ (if b then number d else pos 0)))))

-- ---- powers of two

-- a power of two of 32 bits
pub record IsPower (n : ℤ) : Type 0 where
  pub exponent : ℕ
  pub small : exponent < 31
  pub is : n ≡ pos (2 ^ exponent)

-- DIV and MOD by a number
abbrev pub quotient_by : ℤ → Value → Value
quotient_by d x = Number (floored_quotient (number x) d)

abbrev pub remainder_by : ℤ → Value → Value
remainder_by d x = Number (floored_remainder (number x) d)

-- the number whose word is that of a number, shifted by so many bits
abbrev pub shifted_by : ShiftOp → ℕ → Value → Value
shifted_by op k x = Number (signed (shifted op (word (number x)) k))

-- ---- what is read

-- What a division and the test of its remainder read, and what may be read behind them.
pub record PublishesSplit
    (known : Entries) (at : ℕ) (old new : VProc) (dividend : ℕ) (parts : Parts) : Type 0 where
  pub certifies : Certifies known new
  pub quotient : usable known new at parts.quotient.0 ≡ true
  pub remainder : usable known new at parts.remainder.0 ≡ true
  pub negative : usable known new at parts.negative.0 ≡ true
  pub others : (u : ℕ) → u < length old.vars → u ≢ dividend → usable known old at u ≡ true →
      usable known new at u ≡ true

pub record ReadsSplit (at : ℕ) (old new : VProc) (dividend divisor : ℕ) (parts : Parts)
    : Type 0 where
  pub reads : (known : Entries) → Certifies known old → usable known old at dividend ≡ true →
      usable known old at divisor ≡ true → PublishesSplit known at old new dividend parts

-- the same of what makes up for a negative remainder
pub record ReadsRounding (at : ℕ) (old new : VProc) (parts : Parts) (divisor v : ℕ)
    : Type 0 where
  pub reads : (known : Entries) → Certifies known old →
      usable known old at parts.remainder.0 ≡ true →
      usable known old at parts.negative.0 ≡ true → usable known old at divisor ≡ true →
      Publishes known parts.remainder.0 at old new v
