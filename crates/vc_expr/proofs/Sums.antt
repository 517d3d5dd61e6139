-- Sums, differences and products of words are those of numbers, modulo 2^32.
use Rattle.std.proofs.Common.{◌≡◌, ℕ, ◌+◌, ◌-◌, ◌*◌, ◌%◌, ◌^◌, ◌<◌, ◌≤◌, true, length, refl, sym}
use Rattle.std.proofs.Common.{ap, ◌∙◌, arith}
use Rattle.std.specs.Prelude.{ℤ, ◌+ℤ◌, ◌-ℤ◌, ◌*ℤ◌}
use Rattle.std.specs.Int.{w32, cast_signed}
use Rattle.std.specs.Int.RustNames.{FitsSigned}
use Rattle.std.proofs.lemmas.Int.{of_z-to_z, SFits-int_wrap, wrapping_add_is, wrapping_sub_is}
use Rattle.std.proofs.lemmas.Int.{wrapping_mul_is}
use Rattle.pra_base.specs.Words.{word, sum32, diff32, product32}
use Rattle.pra_base.specs.declared.ids.VarId.{VarId}
use Rattle.pra_base.specs.declared.code.VInstr.TheVariants as instr
use Rattle.pra_base.specs.declared.code.VProc.{VProc}
use Rattle.ob_syntax.specs.Operators.{number, wrapped}
use Rattle.ob_syntax.specs.declared.checked.ROp.{ROp}
use Rattle.ob_syntax.specs.declared.checked.ROp.TheVariants.{Mul, Div, Mod, Both, Add, Sub, Either}
use Rattle.ob_syntax.specs.declared.checked.ROp.TheVariants.{Equal, Unequal, Less, LessEqual}
use Rattle.ob_syntax.specs.declared.checked.ROp.TheVariants.{Greater, GreaterEqual}
use Rattle.ob_syntax.specs.declared.checked.Value.TheVariants.{Number}
use Rattle.vc_build.specs.Grow.{with_instr}
use Rattle.vc_expr.specs.Operators.{is_arithmetic, arithmetic_of, Begins, Suits, of_values}
use Rattle.vc_expr.specs.Operators.{Operates}
use Rattle.vc_expr.proofs.Operations.{operates_adds, operates_where}

pub word_signed : (n : ℕ) → word (cast_signed w32 (n % 2 ^ 32)) ≡ n % 2 ^ 32
word_signed n = of_z-to_z w32 (n % 2 ^ 32) (omega arith)

sums : (a b : ℤ) → FitsSigned w32 a → FitsSigned w32 b → sum32 (word a) (word b) ≡
    word (wrapped (a +ℤ b))
sums a b f g = sym (word_signed (word a + word b)) ∙ ap word (wrapping_add_is w32 a b f g)

differences : (a b : ℤ) → FitsSigned w32 a → FitsSigned w32 b → diff32 (word a) (word b) ≡
    word (wrapped (a -ℤ b))
differences a b f g = sym (word_signed (word a + (2 ^ 32 - word b)))
    ∙ ap word (wrapping_sub_is w32 a b f g)

pub products : (a b : ℤ) → FitsSigned w32 a → FitsSigned w32 b → product32 (word a) (word b) ≡
    word (wrapped (a *ℤ b))
products a b f g = sym (word_signed (word a * word b)) ∙ ap word (wrapping_mul_is w32 a b f g)

module _ (first at : ℕ) (old mid : VProc) (left : ℕ) (target right : VarId)
    (b : Begins first at old mid left target.0) (named : right.0 < length old.vars)
    (low : first ≤ length old.vars) where
  sum_operates : Operates Add first at old (with_instr at (instr.Add target right) mid) left right.0
      target.0
  sum_operates = record {
    adds = operates_adds first at old mid left target right b named low (instr.Add target right)
        refl refl (Suits Add) (of_values Add) (λ x y. Number (wrapped (number x +ℤ number y))) sum32
        (λ x y. refl) (λ x y p f g. SFits-int_wrap w32 (number x +ℤ number y))
        (λ x y p f g. sums (number x) (number y) f g) (λ h a c. refl);
    means = λ w id s x y r stands hx hy p. operates_where first at old mid left target right b named
        low (instr.Add target right) refl refl (Suits Add) (of_values Add)
        (λ x y. Number (wrapped (number x +ℤ number y))) sum32
        (λ x y. refl) (λ x y p f g. SFits-int_wrap w32 (number x +ℤ number y))
        (λ x y p f g. sums (number x) (number y) f g) (λ h a c. refl) w id s x y r stands hx hy
        p;
  }

  difference_operates : Operates Sub first at old (with_instr at (instr.Sub target right) mid) left
      right.0 target.0
  difference_operates = record {
    adds = operates_adds first at old mid left target right b named low (instr.Sub target right)
        refl refl (Suits Sub) (of_values Sub) (λ x y. Number (wrapped (number x -ℤ number y)))
        diff32
        (λ x y. refl) (λ x y p f g. SFits-int_wrap w32 (number x -ℤ number y))
        (λ x y p f g. differences (number x) (number y) f g) (λ h a c. refl);
    means = λ w id s x y r stands hx hy p. operates_where first at old mid left target right b named
        low (instr.Sub target right) refl refl (Suits Sub) (of_values Sub)
        (λ x y. Number (wrapped (number x -ℤ number y))) diff32
        (λ x y. refl) (λ x y p f g. SFits-int_wrap w32 (number x -ℤ number y))
        (λ x y p f g. differences (number x) (number y) f g) (λ h a c. refl) w id s x y r stands
        hx hy p;
  }

  product_operates : Operates Mul first at old (with_instr at (instr.Mul target right) mid) left
      right.0 target.0
  product_operates = record {
    adds = operates_adds first at old mid left target right b named low (instr.Mul target right)
        refl refl (Suits Mul) (of_values Mul) (λ x y. Number (wrapped (number x *ℤ number y)))
        product32
        (λ x y. refl) (λ x y p f g. SFits-int_wrap w32 (number x *ℤ number y))
        (λ x y p f g. products (number x) (number y) f g) (λ h a c. refl);
    means = λ w id s x y r stands hx hy p. operates_where first at old mid left target right b named
        low (instr.Mul target right) refl refl (Suits Mul) (of_values Mul)
        (λ x y. Number (wrapped (number x *ℤ number y))) product32
        (λ x y. refl) (λ x y p f g. SFits-int_wrap w32 (number x *ℤ number y))
        (λ x y p f g. products (number x) (number y) f g) (λ h a c. refl) w id s x y r stands hx
        hy p;
  }

pub operates_arithmetic : (op : ROp) → is_arithmetic op ≡ true → (first at : ℕ) (old mid : VProc)
    (left : ℕ) (target right : VarId) → Begins first at old mid left target.0 → right.0 <
    length old.vars → first ≤ length old.vars →
    Operates op first at old (with_instr at (arithmetic_of op target right) mid) left right.0
    target.0
operates_arithmetic Add e first at old mid left target right b named low =
    sum_operates first at old mid left target right b named low
operates_arithmetic Sub e first at old mid left target right b named low =
    difference_operates first at old mid left target right b named low
operates_arithmetic Mul e first at old mid left target right b named low =
    product_operates first at old mid left target right b named low
operates_arithmetic Div e first at old mid left target right b named low = absurd (cc)
operates_arithmetic Mod e first at old mid left target right b named low = absurd (cc)
operates_arithmetic Both e first at old mid left target right b named low = absurd (cc)
operates_arithmetic Either e first at old mid left target right b named low = absurd (cc)
operates_arithmetic Equal e first at old mid left target right b named low = absurd (cc)
operates_arithmetic Unequal e first at old mid left target right b named low = absurd (cc)
operates_arithmetic Less e first at old mid left target right b named low = absurd (cc)
operates_arithmetic LessEqual e first at old mid left target right b named low = absurd (cc)
operates_arithmetic Greater e first at old mid left target right b named low = absurd (cc)
operates_arithmetic GreaterEqual e first at old mid left target right b named low = absurd (cc)
