-- `~` of 0 and 1, by Xor with 1.
use Rattle.std.proofs.Common.{◌≡◌, ℕ, ◌<◌, ◌≤◌, not, length, None, Ok, refl, sym, ap, ◌∙◌, arith}
use Rattle.std.proofs.Common.{⊎_elim}
use Rattle.std.specs.Prelude.{ℤ, pos, bit_xor, slice_index_or}
use Rattle.std.specs.Ordering.{int_eq}
use Rattle.std.proofs.lemmas.Int.{ints}
use Rattle.pra_base.specs.Code.{kind_of}
use Rattle.pra_base.specs.Words.{word}
use Rattle.pra_base.specs.declared.ids.VarId.{VarId}
use Rattle.pra_base.specs.declared.code.VarKind.TheVariants.{Constant}
use Rattle.pra_base.specs.declared.code.VInstr.TheVariants.{Xor}
use Rattle.pra_base.specs.declared.code.VProc.{VProc}
use Rattle.ob_syntax.specs.Operators.{Outcome, number, is_true, inverted}
use Rattle.ob_syntax.specs.declared.checked.Value.{Value}
use Rattle.ob_syntax.specs.declared.checked.Value.TheVariants.{Number, Truth}
use Rattle.vc_code.specs.Machine.{State}
use Rattle.vc_code.specs.Selected.{Vars, valued, code_of}
use Rattle.vc_build.specs.Grow.{with_instr, with_variable}
use Rattle.vc_build.specs.Runs.{Codes, RunsIn}
use Rattle.vc_build.proofs.Growth.{grows_at_again, declared_kind, declared_count, declared_grows}
use Rattle.vc_expr.specs.Operators.{Adds, Begins, HasValue, IsBit, ConvertsBit}
use Rattle.vc_expr.proofs.Operations.{operates_adds, operates_where}
use Rattle.vc_expr.proofs.Truths.{truth_fits}

-- the value of the constant 1 on the right side
abbrev with_one : Value → Value → Type 0
with_one x y = IsBit x × (number y ≡ pos 1)

abbrev inverts : Value → Value → Outcome
inverts x y = Ok (inverted x)

xor_at : (x y : Value) (m : ℤ) → number x ≡ m → number y ≡ pos 1 → bit_xor (word m) (word (pos 1)) ≡
    word (number (Truth (not (not (int_eq m (pos 0)))))) →
    bit_xor (word (number x)) (word (number y)) ≡ word (number (inverted x))
xor_at x y m ex ey e =
    ap (λ k. bit_xor (word k) (word (number y))) ex ∙ ap (λ k. bit_xor (word m) (word k)) ey ∙ e
    ∙ sym (ap (λ k. word (number (Truth (not (not (int_eq k (pos 0))))))) ex)

inversions : (x y : Value) → with_one x y → bit_xor (word (number x)) (word (number y)) ≡
    word (number (inverted x))
inversions x y p = ⊎_elim (λ (a : number x ≡ pos 0). xor_at x y (pos 0) a p.1 refl)
    (λ (a : number x ≡ pos 1). xor_at x y (pos 1) a p.1 refl) p.0

module _ (first at : ℕ) (old mid : VProc) (operand : ℕ) (target one : VarId)
    (is_new : one.0 ≡ length old.vars)
    (b : Begins first at (with_variable (Constant (pos 1)) old) mid operand target.0)
    (low : first ≤ length old.vars) where
  abbrev before : VProc
  before = with_variable (Constant (pos 1)) old

  abbrev new : VProc
  new = with_instr at (Xor target one) mid

  named : one.0 < length before.vars
  named = omega (arith, is_new, declared_count (Constant (pos 1)) old)

  low_before : first ≤ length before.vars
  low_before = omega (arith, low, declared_count (Constant (pos 1)) old)

  adds : Adds first at before new target.0
  adds =
      operates_adds first at before mid operand target one b named low_before (Xor target one) refl
      refl with_one inverts (λ x y. inverted x) bit_xor
      (λ x y. refl) (λ x y p f g. truth_fits (not (is_true x))) (λ x y p f g. inversions x y p)
      (λ h a c. refl)

  has_one : (w : Codes) (id : ℕ) (s : State Vars) → RunsIn w id new s →
      HasValue w id one.0 s.top (Number (pos 1))
  has_one w id s r =
      let inside : one.0 < length new.vars = omega (arith, named, adds.grows.grows.vars) in
      let kind : kind_of (code_of w.procs id) one.0 ≡ Constant (pos 1) =
      r.holds.kinds one.0 inside ∙ adds.grows.grows.kinds one.0 named ∙ ap (kind_of before) is_new
      ∙ declared_kind (Constant (pos 1)) old in
      record {
        fits = omega (arith, ints);
        held =
            ap (λ k. valued k (slice_index_or s.top.home.held one.0 None)) kind;
      }

  pub inversion_converts : ConvertsBit inverted first at old new operand target.0
  inversion_converts = record {
    adds = record {
      grows = grows_at_again old before new at
          (declared_grows (Constant (pos 1)) old at) adds.grows;
      is_open = adds.is_open;
      named =
          adds.named;
      above = adds.above;
      plain = adds.plain;
    };
    means = λ w id s x r stands hx bit.
        operates_where first at before mid operand target one b named low_before (Xor target one)
        refl refl with_one inverts (λ x y. inverted x) bit_xor
        (λ x y. refl) (λ x y p f g. truth_fits (not (is_true x))) (λ x y p f g. inversions x y p)
        (λ h a c. refl)
        w id s x (Number (pos 1)) r (record { block = stands.block; index = stands.index }) hx
        (has_one w id s r) (bit, refl);
  }
