-- What makes up for a negative remainder.
use Rattle.std.proofs.Common.{◌≡◌, ◌≢◌, ℕ, ◌-◌, ◌^◌, ◌<◌, ◌≤◌, Bool, true, false, length, refl, sym}
use Rattle.std.proofs.Common.{ap, ◌∙◌, subst, ⊎_elim, inl, inr, Ok, arith}
use Rattle.std.specs.Prelude.{ℤ, pos, negsuc, ◌+ℤ◌, ◌-ℤ◌, ◌*ℤ◌, ◌<ℤ◌, ◌⊎◌, int_lt, int_div, int_rem}
use Rattle.std.specs.Prelude.{bit_and, if◌then◌else◌}
use Rattle.std.specs.Int.{w32}
use Rattle.std.specs.Int.RustNames.{FitsSigned, unsigned_abs}
use Rattle.std.proofs.lemmas.Bool.Decides.{nat_tests}
use Rattle.std.proofs.lemmas.Int.{ints, of_z-to_z, quot-rem, rem_below, quot_fits, int_wrap_fits}
use Rattle.std.proofs.lemmas.Nat.{and_mask, and_comm, and_le_l}
use Rattle.pra_base.specs.Words.{word, signed, floored_quotient, floored_remainder}
use Rattle.pra_base.specs.declared.ids.VarId.{VarId}
use Rattle.pra_base.specs.declared.code.VInstr.TheVariants.{And}
use Rattle.pra_base.specs.declared.code.VProc.{VProc}
use Rattle.ob_syntax.specs.Operators.{Outcome, number, wrapped, negated}
use Rattle.ob_syntax.specs.declared.checked.ROp.TheVariants.{Add}
use Rattle.ob_syntax.specs.declared.checked.Value.{Value}
use Rattle.ob_syntax.specs.declared.checked.Value.TheVariants.{Number, Truth}
use Rattle.vc_code.specs.Machine.{Activation, State, with_top}
use Rattle.vc_code.specs.Selected.{Vars}
use Rattle.vc_build.specs.Grow.{with_instr, GrowsAt}
use Rattle.vc_build.specs.Runs.{Codes, RunsIn, SameBelow, Reaches, Stands}
use Rattle.vc_build.proofs.Growth.{grows_at_again}
use Rattle.vc_build.proofs.Steps.{same_on, runs_in_earlier, runs_in_on}
use Rattle.vc_expr.specs.Operators.{Begins, HasValue, Gives, Converts, Combines, Operates}
use Rattle.vc_expr.specs.Division.{AnySides, common_bits, in_common, Rounds}
use Rattle.vc_expr.proofs.Operations.{same_fewer, operates_adds, operates_where}
use Rattle.vc_expr.proofs.Divisions.{value_on, given_value}
use Rattle.vc_expr.proofs.Relations.{back}
use Rattle.vc_expr.proofs.Reaching.{reaches_as, reaches_then}

-- ---- bits

word_below : (a : ℤ) → FitsSigned w32 a → word a < 2 ^ 32
word_below a f = omega (arith, ints)

bits_below : (x y : ℤ) → FitsSigned w32 x → bit_and (word x) (word y) < 2 ^ 32
bits_below x y f = omega (arith, word_below x f, and_le_l (word x) (word y))

signed_fits : (a : ℕ) → a < 2 ^ 32 → FitsSigned w32 (signed a)
signed_fits a h = omega (arith, ints)

module _ (first at : ℕ) (old mid : VProc) (left : ℕ) (target right : VarId)
    (b : Begins first at old mid left target.0) (named : right.0 < length old.vars)
    (low : first ≤ length old.vars) where
  pub bits_combine : Combines AnySides in_common first at old
      (with_instr at (And target right) mid) left right.0 target.0
  bits_combine = record {
    adds = operates_adds first at old mid left target right b named low (And target right) refl refl
        AnySides in_common (λ x y. Number (common_bits (number x) (number y))) bit_and
        (λ x y. refl)
        (λ x y p f g. signed_fits (bit_and (word (number x)) (word (number y)))
        (bits_below (number x) (number y) f))
        (λ x y p f g. sym (of_z-to_z w32 (bit_and (word (number x)) (word (number y)))
        (bits_below (number x) (number y) f))) (λ h a c. refl);
    means = λ w id s x y r stands hx hy p.
        operates_where first at old mid left target right b named low (And target right) refl refl
        AnySides in_common (λ x y. Number (common_bits (number x) (number y))) bit_and
        (λ x y. refl)
        (λ x y p f g. signed_fits (bit_and (word (number x)) (word (number y)))
        (bits_below (number x) (number y) f))
        (λ x y p f g. sym (of_z-to_z w32 (bit_and (word (number x)) (word (number y)))
        (bits_below (number x) (number y) f))) (λ h a c. refl)
        w id s x y r stands hx hy p;
  }

-- ---- masks

-- all bits are set, or none
abbrev pub IsMask : Value → Value → Type 0
IsMask x y = (number x ≡ negsuc 0) ⊎ (number x ≡ pos 0)

-- what a mask leaves of a number
abbrev pub masked : Value → Value → Outcome
masked x y = Ok (Number (if int_lt (number x) (pos 0) then number y else pos 0))

all_bits : (n : ℕ) → n < 2 ^ 32 → bit_and (2 ^ 32 - 1) n ≡ n
all_bits n lt = and_comm (2 ^ 32 - 1) n ∙ and_mask n 32 ∙ omega (arith, lt)

mask_at : (x y : Value) (m : ℤ) → number x ≡ m → bit_and (word m) (word (number y)) ≡
    word (if int_lt m (pos 0) then number y else pos 0) →
    bit_and (word (number x)) (word (number y)) ≡
    word (if int_lt (number x) (pos 0) then number y else pos 0)
mask_at x y m e is = ap (λ k. bit_and (word k) (word (number y))) e ∙ is
    ∙ sym (ap (λ k. word (if int_lt k (pos 0) then number y else pos 0)) e)

masks : (x y : Value) → FitsSigned w32 (number y) → IsMask x y →
    bit_and (word (number x)) (word (number y)) ≡
    word (if int_lt (number x) (pos 0) then number y else pos 0)
masks x y f p = ⊎_elim
    (λ (e : number x ≡ negsuc 0). mask_at x y (negsuc 0) e
    (all_bits (word (number y)) (word_below (number y) f)))
    (λ (e : number x ≡ pos 0). mask_at x y (pos 0) e refl)
    p

mask_fits : (b : Bool) (n : ℤ) → FitsSigned w32 n → FitsSigned w32 (if b then n else pos 0)
mask_fits true n f = f
mask_fits false n f = omega (arith, ints)

abbrev mask_value : Value → Value → Value
mask_value x y = Number (if int_lt (number x) (pos 0) then number y else pos 0)

pub masks_combine : (first at : ℕ) (old new : VProc) (left right v : ℕ) →
    Combines AnySides in_common first at old new left right v →
    Combines IsMask masked first at old new left right v
masks_combine first at old new left right v c = record {
  adds = c.adds;
  means = λ w id s x y r stands hx hy p.
      subst (λ n. Reaches w s (Gives w id new at v first s.top (Number n)))
      (ap signed (masks x y hy.fits p)
      ∙ back (if int_lt (number x) (pos 0) then number y else pos 0)
      (mask_fits (int_lt (number x) (pos 0)) (number y) hy.fits))
      (c.means w id s x y r stands hx hy tt);
}

-- ---- the remainder that is rounded down

minus : (b : Bool) → number (negated (Truth b)) ≡ (if b then negsuc 0 else pos 0)
minus true = int_wrap_fits w32 (negsuc 0) (omega (arith, ints))
minus false = int_wrap_fits w32 (pos 0) (omega (arith, ints))

is_mask : (b : Bool) (y : Value) → IsMask (negated (Truth b)) y
is_mask true y = inl (minus true)
is_mask false y = inr (minus false)

below : (b : Bool) → int_lt (if b then negsuc 0 else pos 0) (pos 0) ≡ b
below true = refl
below false = refl

module _ (at : ℕ) (old m1 m2 new : VProc) (r n d mask added v : ℕ)
    (negates : Converts negated n at old m1 n mask)
    (combines : Combines IsMask masked n at m1 m2 mask d added)
    (sums : Operates Add r at m2 new r added v) (d_below : d < n) (r_below : r < n) where
  m1_new : GrowsAt at m1 new
  m1_new = grows_at_again m1 m2 new at combines.adds.grows sums.adds.grows

  module _ (w : Codes) (id : ℕ) (s : State Vars) (x y : Value) (b : Bool) (run : RunsIn w id new s)
      (stands : Stands old at s.top) (hr : HasValue w id r s.top x)
      (hn : HasValue w id n s.top (Truth b)) (hd : HasValue w id d s.top y) where
    abbrev addend : ℤ
    addend = if b then number y else pos 0

    abbrev Done : Activation Vars → Type 0
    Done = Gives w id new at v r s.top (Number (wrapped (number x +ℤ addend)))

    run2 : RunsIn w id m2 s
    run2 = runs_in_earlier w id m2 new s sums.adds.grows.grows run

    run1 : RunsIn w id m1 s
    run1 = runs_in_earlier w id m1 m2 s combines.adds.grows.grows run2

    is_addend : number (mask_value (negated (Truth b)) y) ≡ addend
    is_addend = ap (λ c. if c then number y else pos 0)
        (ap (λ k. int_lt k (pos 0)) (minus b) ∙ below b)

    summed : (c2 : Activation Vars) → SameBelow n s.top c2 → Gives w id m2 at added n s.top
        (mask_value (negated (Truth b)) y) c2 → Reaches w (with_top s c2) Done
    summed c2 same g =
        reaches_as w (with_top s c2)
        (Gives w id new at v r c2
        (Number (wrapped (number x +ℤ number (mask_value (negated (Truth b)) y))))) Done
        (sums.means w id (with_top s c2) x (mask_value (negated (Truth b)) y)
        (runs_in_on w id n new s c2 same run) g.holds.stands
        (value_on w id n r s.top c2 x same r_below hr)
        (given_value w id m2 at added n s.top c2 (mask_value (negated (Truth b)) y) g) tt)
        (λ c3 h. subst (λ k. Gives w id new at v r s.top (Number (wrapped (number x +ℤ k))) c3)
        is_addend
        (record {
          fits = h.fits;
          holds =
              record {
                stands = h.holds.stands;
                same = same_on r r s.top c2 c3 (omega arith)
                    (same_fewer r n s.top c2 (omega (arith, r_below)) same) h.holds.same;
                value =
                    h.holds.value;
              };
        }))

    combined : (c1 : Activation Vars) → Gives w id m1 at mask n s.top (negated (Truth b)) c1 →
        Reaches w (with_top s c1) Done
    combined c1 g =
        let same1 = g.holds.same in
        reaches_then w (with_top s c1)
        (Gives w id m2 at added n c1 (mask_value (negated (Truth b)) y)) Done
        (combines.means w id (with_top s c1) (negated (Truth b)) y
        (runs_in_on w id n m2 s c1 same1 run2) g.holds.stands
        (given_value w id m1 at mask n s.top c1 (negated (Truth b)) g)
        (value_on w id n d s.top c1 y same1 d_below hd) (is_mask b y))
        (λ c2 h.
        let same2 = same_on n n s.top c1 c2 (omega arith) same1 h.holds.same in
        summed c2 same2 (record {
          fits = h.fits;
          holds =
              record { stands = h.holds.stands; same = same2; value = h.holds.value };
        }))

    rounded : Reaches w s Done
    rounded =
        reaches_then w s (Gives w id m1 at mask n s.top (negated (Truth b))) Done
        (negates.means w id s (Truth b) run1 stands hn) combined

  pub rounds : Rounds r at old new r n d v
  rounds = record {
    adds = record {
      grows = grows_at_again old m1 new at negates.adds.grows m1_new;
      is_open = sums.adds.is_open;
      named = sums.adds.named;
      above = sums.adds.above;
      plain = sums.adds.plain;
    };
    means = λ w id s x y b run stands hr hn hd. rounded w id s x y b run stands hr hn hd;
  }

-- ---- what is rounded down has 32 bits

module _ (x d : ℤ) (fx : FitsSigned w32 x) (fd : FitsSigned w32 d) (up : pos 0 <ℤ d) where
  q_fits : FitsSigned w32 (int_div x d)
  q_fits = quot_fits w32 x d fx up

  positive_abs : 0 < unsigned_abs d
  positive_abs = grind (arith, ints)

  r_below : unsigned_abs (int_rem x d) < unsigned_abs d
  r_below = rem_below x d positive_abs

  -- the least quotient comes from the least number by 1, which leaves no remainder
  not_least : int_rem x d <ℤ pos 0 → int_div x d ≢ negsuc 2147483647
  not_least negative e =
      let whole : negsuc 2147483647 *ℤ d +ℤ int_rem x d ≡ x = ap (λ k. k *ℤ d +ℤ int_rem x d)
      (sym e) ∙ quot-rem x d in
      omega (arith, ints, whole, negative, fx, up)

  lower : int_rem x d <ℤ pos 0 → FitsSigned w32 (int_div x d -ℤ pos 1)
  lower negative = let f = q_fits in let n = not_least negative in grind (arith, ints)

  higher : int_rem x d <ℤ pos 0 → FitsSigned w32 (int_rem x d +ℤ d)
  higher negative = let s = r_below in grind (arith, ints)

  same_remainder : FitsSigned w32 (int_rem x d +ℤ pos 0)
  same_remainder = let s = r_below in grind (arith, ints)

  is_below : int_lt (int_rem x d) (pos 0) ≡ true → int_rem x d <ℤ pos 0
  is_below e = grind (arith, nat_tests)

  quotients : (b : Bool) → int_lt (int_rem x d) (pos 0) ≡ b →
      wrapped (int_div x d -ℤ number (Truth b)) ≡ (if b then int_div x d -ℤ pos 1 else int_div x d)
  quotients true e = int_wrap_fits w32 (int_div x d -ℤ pos 1) (lower (is_below e))
  quotients false e =
      let none : int_div x d -ℤ pos 0 ≡ int_div x d = omega (arith, ints) in
      ap wrapped none ∙ int_wrap_fits w32 (int_div x d) q_fits

  remainders : (b : Bool) → int_lt (int_rem x d) (pos 0) ≡ b →
      wrapped (int_rem x d +ℤ (if b then d else pos 0)) ≡
      (if b then int_rem x d +ℤ d else int_rem x d)
  remainders true e = int_wrap_fits w32 (int_rem x d +ℤ d) (higher (is_below e))
  remainders false e =
      let none : int_rem x d +ℤ pos 0 ≡ int_rem x d = omega (arith, ints) in
      int_wrap_fits w32 (int_rem x d +ℤ pos 0) same_remainder ∙ none

  pub quotient_is : wrapped (int_div x d -ℤ number (Truth (int_lt (int_rem x d) (pos 0)))) ≡
      floored_quotient x d
  quotient_is = quotients (int_lt (int_rem x d) (pos 0)) refl

  pub remainder_is : wrapped (int_rem x d +ℤ (if int_lt (int_rem x d) (pos 0) then d else pos 0)) ≡
      floored_remainder x d
  remainder_is = remainders (int_lt (int_rem x d) (pos 0)) refl
