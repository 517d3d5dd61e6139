-- DIV and MOD by a constant that is a power of two.
use Rattle.std.proofs.Common.{◌≡◌, ℕ, zero, suc, ◌*◌, ◌%◌, ◌^◌, ◌<◌, ◌≤◌, true, length, None, Ok, Err, refl, sym, ap}
use Rattle.std.proofs.Common.{◌∙◌, subst, arith}
use Rattle.std.specs.Prelude.{ℤ, pos, ◌-ℤ◌, ◌*ℤ◌, ◌<ℤ◌, int_lt, if◌then◌else◌}
use Rattle.std.specs.Prelude.{nat_eq, slice_index_or}
use Rattle.std.specs.Int.{w32}
use Rattle.std.specs.Int.RustNames.{FitsSigned}
use Rattle.std.proofs.Math.Pow.{pow_mono}
use Rattle.std.proofs.lemmas.Bool.Decides.{nat_tests}
use Rattle.std.proofs.lemmas.Int.{ints, SFits-int_wrap}
use Rattle.std.proofs.Math.IntN.{*ℤ_comm}
use Rattle.std.proofs.lemmas.Nat.{pow_pos, pow_below, one_shl}
use Rattle.pra_base.specs.Code.{kind_of}
use Rattle.pra_base.specs.Words.{word, signed, shifted, product32, floored_quotient, floored_remainder}
use Rattle.pra_base.specs.declared.ids.ShiftOp.TheVariants.{Shl, Sar}
use Rattle.pra_base.specs.declared.event.TrapKind.TheVariants.{Divide}
use Rattle.pra_base.specs.declared.ids.VarId.{VarId}
use Rattle.pra_base.specs.declared.code.VarKind.TheVariants.{Constant}
use Rattle.pra_base.specs.declared.code.VProc.{VProc}
use Rattle.pra_base.proofs.Division.{floored}
use Rattle.ob_syntax.specs.Operators.{Outcome, number, wrapped}
use Rattle.ob_syntax.specs.declared.checked.ROp.{ROp}
use Rattle.ob_syntax.specs.declared.checked.ROp.TheVariants.{Mul, Div, Mod}
use Rattle.ob_syntax.specs.declared.checked.Value.{Value}
use Rattle.ob_syntax.specs.declared.checked.Value.TheVariants.{Number}
use Rattle.vc_code.specs.declared.value.Value.TheVariants.{Num}
use Rattle.vc_code.specs.Machine.{State}
use Rattle.vc_code.specs.Selected.{Vars, valued, code_of}
use Rattle.vc_build.specs.Grow.{with_variable}
use Rattle.vc_build.specs.Runs.{Codes, RunsIn, Reaches, Holds, Stands, Yields}
use Rattle.vc_build.proofs.Growth.{declared_kind, declared_count, declared_grows}
use Rattle.vc_expr.specs.Operators.{Adds, Begins, HasValue, Gives, Combines, Converts, of_values}
use Rattle.vc_expr.specs.Operators.{Operates}
use Rattle.vc_expr.specs.Division.{AnySides, common_bits, in_common}
use Rattle.vc_expr.specs.Division.{IsPower, quotient_by, remainder_by, shifted_by}
use Rattle.vc_expr.specs.Readable.{ReadsOperands}
use Rattle.vc_expr.proofs.Certificates.{declare_certifies, declare_usable}
use Rattle.vc_expr.proofs.Divisions.{adds_after, has_constant, words_same}
use Rattle.vc_expr.proofs.Operations.{same_fewer}
use Rattle.vc_expr.proofs.Powers.{signed_low, low_bits, high_bits, shifted_up}
use Rattle.vc_expr.proofs.Sums.{products}
use Rattle.vc_expr.proofs.Published.{behind_declared, new_constant}
use Rattle.vc_expr.proofs.Reaching.{reaches_as}
use Rattle.vc_expr.proofs.Relations.{back}

-- ---- powers of two

module _ (d : ℤ) (p : IsPower d) where
  least : 0 < 2 ^ p.exponent
  least = pow_pos p.exponent

  most : 2 ^ p.exponent ≤ 2 ^ 30
  most = let small = p.small in pow_mono {i = p.exponent} {j = 30} (omega (arith, small))

  pub is_positive : pos 0 <ℤ d
  is_positive = subst (λ n. pos 0 <ℤ n) (sym p.is) (omega (arith, ints, least))

  pub power_fits : FitsSigned w32 d
  power_fits = subst (FitsSigned w32) (sym p.is) (omega (arith, ints, most))

  pub less_fits : FitsSigned w32 (d -ℤ pos 1)
  less_fits = subst (λ n. FitsSigned w32 (n -ℤ pos 1)) (sym p.is) (omega (arith, ints, least, most))

  low : (x : ℤ) → FitsSigned w32 x → common_bits x (d -ℤ pos 1) ≡ floored_remainder x d
  low x f = subst (λ n. common_bits x (n -ℤ pos 1) ≡ floored_remainder x n) (sym p.is)
      (low_bits p.exponent p.small x f)

-- a number whose word is a power of two, but for the sign bit
pub power_from : (n : ℤ) (bits k : ℕ) → bits ≡ word n → FitsSigned w32 n → k < 31 →
    nat_eq bits (1 * 2 ^ k % 2 ^ 32) ≡ true → IsPower n
power_from n bits k is fits lt same =
    let equal : bits ≡ 1 * 2 ^ k % 2 ^ 32 = grind (arith, nat_tests) in
    let word_is : word n ≡ 2 ^ k = sym is ∙ equal ∙ one_shl k 32 (omega (arith, lt)) in
    record {
      exponent = k;
      small = lt;
      is = sym (back n fits) ∙ ap signed word_is ∙ signed_low (2 ^ k) (pow_below k 31 lt);
    }

-- a power of two that is not 1 has an exponent above 0
pub at_least : (d : ℤ) (k : ℕ) → d ≡ pos (2 ^ k) → (d ≡ pos 1 → ⊥) → 1 ≤ k
at_least d zero e differs = absurd (differs e)
at_least d (suc k) e differs = omega arith

pub word_power : (k : ℕ) → k < 31 → word (pos (2 ^ k)) ≡ 2 ^ k
word_power k lt = let less : 2 ^ k < 2 ^ 31 = pow_below k 31 lt in omega (arith, ints, less)

exchanged : (x y : Value) → of_values Mul x y ≡ of_values Mul y x
exchanged x y = ap (λ n. Ok (Number (wrapped n))) (*ℤ_comm (number x) (number y))

by_one : (x : ℤ) → floored_quotient x (pos 1) ≡ x
by_one x = let f = floored x (pos 1) (omega (arith, ints)) in
    omega (arith, ints, f.whole, f.low, f.high)

-- ---- And with a constant

module _ (first at : ℕ) (old new : VProc) (n : ℤ) (left v : ℕ) (mask : VarId)
    (is_new : mask.0 ≡ length old.vars) (fits : FitsSigned w32 n)
    (combines : Combines AnySides in_common first at (with_variable (Constant n) old) new left
    mask.0 v) where
  abbrev before : VProc
  before = with_variable (Constant n) old

  named : mask.0 < length before.vars
  named = omega (arith, is_new, declared_count (Constant n) old)

  has_mask : (w : Codes) (id : ℕ) (s : State Vars) → RunsIn w id new s →
      HasValue w id mask.0 s.top (Number n)
  has_mask w id s r =
      has_constant w id mask.0 s.top n fits
      (r.holds.kinds mask.0 (omega (arith, named, combines.adds.grows.grows.vars))
      ∙ combines.adds.grows.grows.kinds mask.0 named ∙ ap (kind_of before) is_new
      ∙ declared_kind (Constant n) old)

  pub bits_added : Adds first at old new v
  bits_added = adds_after first first at old before new v (declared_grows (Constant n) old at)
      (omega arith) combines.adds

  bits_given : (w : Codes) (id : ℕ) (s : State Vars) (x : Value) → RunsIn w id new s →
      Stands old at s.top → HasValue w id left s.top x →
      Reaches w s (Gives w id new at v first s.top (Number (common_bits (number x) n)))
  bits_given w id s x r stands hx =
      combines.means w id s x (Number n) r
      (record { block = stands.block; index = stands.index }) hx (has_mask w id s r) tt

  pub bits_read : ReadsOperands first at before new left mask.0 v →
      ReadsOperands first at old new left left v
  bits_read reads = record {
    reads = λ known c one two.
        behind_declared known (Constant n) first at old new v
        (reads.reads known (declare_certifies known (Constant n) old c)
        (declare_usable known (Constant n) old at left one)
        (new_constant known n at mask.0 old is_new));
  }

-- ---- MOD

pub remainder_converts : (first at : ℕ) (old new : VProc) (d : ℤ) (left v : ℕ) (mask : VarId) →
    mask.0 ≡ length old.vars → IsPower d → Combines AnySides in_common first at
    (with_variable (Constant (d -ℤ pos 1)) old) new left mask.0 v →
    Converts (remainder_by d) first at old new left v
remainder_converts first at old new d left v mask is_new p combines = record {
  adds = bits_added first at old new (d -ℤ pos 1) left v mask is_new (less_fits d p) combines;
  means = λ w id s x r stands hx.
      subst (λ z. Reaches w s (Gives w id new at v first s.top (Number z)))
      (low d p (number x) hx.fits)
      (bits_given first at old new (d -ℤ pos 1) left v mask is_new (less_fits d p) combines w id s x
      r stands hx);
}

-- ---- DIV

pub quotient_converts : (first at : ℕ) (old new : VProc) (d : ℤ) (left v k : ℕ) → k < 31 →
    d ≡ pos (2 ^ k) → Converts (shifted_by Sar k) first at old new left v →
    Converts (quotient_by d) first at old new left v
quotient_converts first at old new d left v k small is c = record {
  adds = c.adds;
  means = λ w id s x r stands hx.
      subst (λ z. Reaches w s (Gives w id new at v first s.top (Number z)))
      (high_bits k (omega (arith, small)) (number x) hx.fits
      ∙ ap (floored_quotient (number x)) (sym is))
      (c.means w id s x r stands hx);
}

-- by 1 the start of the operation is all
pub start_converts : (first at : ℕ) (old new : VProc) (left v : ℕ) →
    Begins first at old new left v → first ≤ length old.vars →
    Converts (quotient_by (pos 1)) first at old new left v
start_converts first at old new left v b lowest = record {
  adds = b.adds;
  means = λ w id s x r stands hx.
      subst (λ z. Reaches w s (Gives w id new at v first s.top (Number z)))
      (sym (by_one (number x)))
      (reaches_as w s (Holds w id new at v (length old.vars) s.top (Num (word (number x))))
      (Gives w id new at v first s.top (Number (number x)))
      (b.means w id s (Num (word (number x))) r stands hx.held)
      (λ c h. record {
        fits = hx.fits;
        holds = record {
          stands = h.stands;
          same = same_fewer first (length old.vars) s.top c lowest h.same;
          value = h.value;
        };
      }));
}

-- ---- as operators

module _ (first at : ℕ) (old new : VProc) (d : ℤ) (left right v : ℕ) (p : IsPower d)
    (there : right < length old.vars) (kind : kind_of old right ≡ Constant d) where
  value_is : (w : Codes) (id : ℕ) (s : State Vars) (y : Value) → Adds first at old new v →
      RunsIn w id new s → HasValue w id right s.top y → number y ≡ d
  value_is w id s y adds run hy =
      let final : kind_of (code_of w.procs id) right ≡ Constant d =
      run.holds.kinds right (omega (arith, there, adds.grows.grows.vars))
      ∙ adds.grows.grows.kinds right there ∙ kind in
      let same : word d ≡ word (number y) = words_same (word d) (word (number y))
      (sym (ap (λ x. valued x (slice_index_or s.top.home.held right None)) final) ∙ hy.held) in
      sym (back (number y) hy.fits) ∙ ap signed (sym same) ∙ back d (power_fits d p)

  above : int_lt (pos 0) d ≡ true
  above = let up = is_positive d p in grind (arith, nat_tests)

  by_power : (z : ℤ → ℤ) (m : ℤ) → m ≡ d →
      ◌≡◌ {A = Outcome} (if int_lt (pos 0) m then Ok (Number (z m)) else Err Divide)
      (Ok (Number (z d)))
  by_power z m e =
      ap (λ k. if int_lt (pos 0) k then Ok (Number (z k)) else Err Divide) e
      ∙ ap (λ b. if b then Ok (Number (z d)) else Err Divide) above

  module _ (op : ROp) (f : ℤ → ℤ → ℤ)
      (is : (x y : Value) → of_values op x y ≡
      (if int_lt (pos 0) (number y) then Ok (Number (f (number x) (number y))) else Err Divide))
      (c : Converts (λ x. Number (f (number x) d)) first at old new left v) where
    pub operates_by : Operates op first at old new left right v
    operates_by = record {
      adds = c.adds;
      means = λ w id s x y run stands hx hy suits.
          subst (Yields w s (Gives w id new at v first s.top))
          (sym (is x y
          ∙ by_power (f (number x)) (number y) (value_is w id s y c.adds run hy)))
          (c.means w id s x run stands hx);
    }

  pub mod_operates : Converts (remainder_by d) first at old new left v →
      Operates Mod first at old new left right v
  mod_operates c = operates_by Mod floored_remainder (λ x y. sym (same x y)) c
    where
      same : (x y : Value) →
          ◌≡◌ {A = Outcome}
          (if int_lt (pos 0) (number y) then Ok (Number (floored_remainder (number x) (number y)))
          else Err Divide) (of_values Mod x y)
      same x y = refl

  pub div_operates : Converts (quotient_by d) first at old new left v →
      Operates Div first at old new left right v
  div_operates c = operates_by Div floored_quotient (λ x y. sym (same x y)) c
    where
      same : (x y : Value) →
          ◌≡◌ {A = Outcome}
          (if int_lt (pos 0) (number y) then Ok (Number (floored_quotient (number x) (number y)))
          else Err Divide) (of_values Div x y)
      same x y = refl

  -- a product by a shift to the left, of either side
  module _ (k : ℕ) (small : k < 31) (is : d ≡ pos (2 ^ k)) where
    times : (x y : Value) → FitsSigned w32 (number x) → number y ≡ d →
        ◌≡◌ {A = Outcome} (Ok (shifted_by Shl k x)) (of_values Mul x y)
    times x y fits e =
        let bits : word d ≡ 2 ^ k = ap word is ∙ word_power k small in
        let words : shifted Shl (word (number x)) k ≡ word (wrapped (number x *ℤ d)) =
        shifted_up k (omega (arith, small)) (word (number x))
        ∙ ap (product32 (word (number x))) (sym bits) ∙ products (number x) d fits (power_fits d p) in
        ap (λ n. Ok (Number n)) (ap signed words
        ∙ back (wrapped (number x *ℤ d)) (SFits-int_wrap w32 (number x *ℤ d))
        ∙ ap (λ m. wrapped (number x *ℤ m)) (sym e))

    pub mul_operates : Converts (shifted_by Shl k) first at old new left v →
        Operates Mul first at old new left right v
    mul_operates c = record {
      adds = c.adds;
      means = λ w id s x y run stands hx hy suits.
          subst (Yields w s (Gives w id new at v first s.top))
          (times x y hx.fits (value_is w id s y c.adds run hy))
          (c.means w id s x run stands hx);
    }

    pub mul_operates_right : Converts (shifted_by Shl k) first at old new left v →
        Operates Mul first at old new right left v
    mul_operates_right c = record {
      adds = c.adds;
      means = λ w id s x y run stands hx hy suits.
          subst (Yields w s (Gives w id new at v first s.top))
          (times y x hy.fits (value_is w id s x c.adds run hx) ∙ exchanged y x)
          (c.means w id s y run stands hy);
    }

-- what one operand reads
pub reads_left : (first at : ℕ) (old new : VProc) (left right v : ℕ) →
    ReadsOperands first at old new left left v → ReadsOperands first at old new left right v
reads_left first at old new left right v r = record {
  reads = λ known c one two.
      r.reads known c one one;
}

-- what is said of all variables of the code is said of the first ones
pub reads_first : (first at : ℕ) (old new : VProc) (left v : ℕ) → first ≤ length old.vars →
    ReadsOperands (length old.vars) at old new left left v →
    ReadsOperands first at old new left left v
reads_first first at old new left v lowest r = record {
  reads = λ known c one two.
      let p = r.reads known c one two in
      record {
        certifies = p.certifies;
        result = p.result;
        others = λ u lt is. p.others u (omega (arith, lt, lowest)) is;
      };
}
