-- `&` and OR of 0 and 1, bit by bit.
use Rattle.std.proofs.Common.{◌≡◌, ℕ, ◌<◌, ◌≤◌, Bool, true, false, not, length, Ok, refl, sym, ap}
use Rattle.std.proofs.Common.{◌∙◌, arith, ⊎_elim}
use Rattle.std.specs.Prelude.{ℤ, pos, bit_and, bit_or, if◌then◌else◌, Result}
use Rattle.std.specs.Ordering.{int_eq}
use Rattle.std.specs.Int.{w32}
use Rattle.std.specs.Int.RustNames.{FitsSigned}
use Rattle.std.proofs.lemmas.Int.{ints}
use Rattle.pra_base.specs.Words.{word}
use Rattle.pra_base.specs.declared.event.TrapKind.{TrapKind}
use Rattle.pra_base.specs.declared.ids.VarId.{VarId}
use Rattle.pra_base.specs.declared.code.VInstr.TheVariants as instr
use Rattle.pra_base.specs.declared.code.VProc.{VProc}
use Rattle.ob_syntax.specs.Operators.{number, is_true}
use Rattle.ob_syntax.specs.declared.checked.ROp.{ROp}
use Rattle.ob_syntax.specs.declared.checked.ROp.TheVariants.{Mul, Div, Mod, Both, Add, Sub, Either}
use Rattle.ob_syntax.specs.declared.checked.ROp.TheVariants.{Equal, Unequal, Less, LessEqual}
use Rattle.ob_syntax.specs.declared.checked.ROp.TheVariants.{Greater, GreaterEqual}
use Rattle.ob_syntax.specs.declared.checked.Value.{Value}
use Rattle.ob_syntax.specs.declared.checked.Value.TheVariants.{Truth}
use Rattle.vc_build.specs.Grow.{with_instr}
use Rattle.vc_expr.specs.Operators.{Begins, IsBit, is_bitwise, bitwise_of, Suits, of_values}
use Rattle.vc_expr.specs.Operators.{Operates}
use Rattle.vc_expr.proofs.Operations.{operates_adds, operates_where}

abbrev bits : Value → Value → Type 0
bits x y = IsBit x × IsBit y

abbrev conjunction : Value → Value → Value
conjunction x y = if is_true x then y else Truth false

abbrev disjunction : Value → Value → Value
disjunction x y = if is_true x then Truth true else y

-- a choice of values is a value of choices
chosen : (b : Bool) (x y : Value) → ◌≡◌ {A = Result Value TrapKind} (if b then Ok x else Ok y)
    (Ok (if b then x else y))
chosen true x y = refl
chosen false x y = refl

true_of : (x : Value) (n : ℤ) → number x ≡ n → is_true x ≡ not (int_eq n (pos 0))
true_of x n e = ap (λ m. not (int_eq m (pos 0))) e

-- the number of a choice, by the number that is tested
number_of : (x one other : Value) (n : ℤ) → number x ≡ n →
    number (if is_true x then one else other) ≡
    number (if not (int_eq n (pos 0)) then one else other)
number_of x one other n e = ap (λ b. number (if b then one else other)) (true_of x n e)

module _ (x y : Value) where
  and_at : (m n : ℤ) → number x ≡ m → number y ≡ n → bit_and (word m) (word n) ≡
      word (number (if not (int_eq m (pos 0)) then y else Truth false)) →
      bit_and (word (number x)) (word (number y)) ≡ word (number (conjunction x y))
  and_at m n ex ey e = ap (λ k. bit_and (word k) (word (number y))) ex
      ∙ ap (λ k. bit_and (word m) (word k)) ey ∙ e
      ∙ sym (ap word (number_of x y (Truth false) m ex))

  or_at : (m n : ℤ) → number x ≡ m → number y ≡ n → bit_or (word m) (word n) ≡
      word (number (if not (int_eq m (pos 0)) then Truth true else y)) →
      bit_or (word (number x)) (word (number y)) ≡ word (number (disjunction x y))
  or_at m n ex ey e = ap (λ k. bit_or (word k) (word (number y))) ex
      ∙ ap (λ k. bit_or (word m) (word k)) ey ∙ e ∙ sym (ap word (number_of x (Truth true) y m ex))

  conjunctions : bits x y → bit_and (word (number x)) (word (number y)) ≡
      word (number (conjunction x y))
  conjunctions p = ⊎_elim
      (λ (a : number x ≡ pos 0). ⊎_elim (λ (c : number y ≡ pos 0). and_at (pos 0) (pos 0) a c refl)
      (λ (c : number y ≡ pos 1). and_at (pos 0) (pos 1) a c refl) p.1)
      (λ (a : number x ≡ pos 1). ⊎_elim
      (λ (c : number y ≡ pos 0). and_at (pos 1) (pos 0) a c (sym (ap word c)))
      (λ (c : number y ≡ pos 1). and_at (pos 1) (pos 1) a c (sym (ap word c))) p.1)
      p.0

  disjunctions : bits x y → bit_or (word (number x)) (word (number y)) ≡
      word (number (disjunction x y))
  disjunctions p = ⊎_elim
      (λ (a : number x ≡ pos 0). ⊎_elim
      (λ (c : number y ≡ pos 0). or_at (pos 0) (pos 0) a c (sym (ap word c)))
      (λ (c : number y ≡ pos 1). or_at (pos 0) (pos 1) a c (sym (ap word c))) p.1)
      (λ (a : number x ≡ pos 1). ⊎_elim (λ (c : number y ≡ pos 0). or_at (pos 1) (pos 0) a c refl)
      (λ (c : number y ≡ pos 1). or_at (pos 1) (pos 1) a c refl) p.1)
      p.0

choice_fits : (b : Bool) (x y : Value) → FitsSigned w32 (number x) → FitsSigned w32 (number y) →
    FitsSigned w32 (number (if b then x else y))
choice_fits true x y f g = f
choice_fits false x y f g = g

pub truth_fits : (b : Bool) → FitsSigned w32 (number (Truth b))
truth_fits true = omega (arith, ints)
truth_fits false = omega (arith, ints)

module _ (first at : ℕ) (old mid : VProc) (left : ℕ) (target right : VarId)
    (b : Begins first at old mid left target.0) (named : right.0 < length old.vars)
    (low : first ≤ length old.vars) where
  both_operates : Operates Both first at old (with_instr at (instr.And target right) mid) left
      right.0 target.0
  both_operates = record {
    adds = operates_adds first at old mid left target right b named low (instr.And target right)
        refl refl (Suits Both) (of_values Both) conjunction bit_and
        (λ x y. chosen (is_true x) y (Truth false))
        (λ x y p f g. choice_fits (is_true x) y (Truth false) g (truth_fits false))
        (λ x y p f g. conjunctions x y p) (λ h a c. refl);
    means = λ w id s x y r stands hx hy p.
        operates_where first at old mid left target right b named low (instr.And target right) refl
        refl (Suits Both) (of_values Both) conjunction bit_and
        (λ x y. chosen (is_true x) y (Truth false))
        (λ x y p f g. choice_fits (is_true x) y (Truth false) g (truth_fits false))
        (λ x y p f g. conjunctions x y p) (λ h a c. refl)
        w id s x y r stands hx hy p;
  }

  either_operates : Operates Either first at old (with_instr at (instr.Or target right) mid) left
      right.0 target.0
  either_operates = record {
    adds = operates_adds first at old mid left target right b named low (instr.Or target right) refl
        refl (Suits Either) (of_values Either) disjunction bit_or
        (λ x y. chosen (is_true x) (Truth true) y)
        (λ x y p f g. choice_fits (is_true x) (Truth true) y (truth_fits true) g)
        (λ x y p f g. disjunctions x y p) (λ h a c. refl);
    means = λ w id s x y r stands hx hy p.
        operates_where first at old mid left target right b named low (instr.Or target right) refl
        refl (Suits Either) (of_values Either) disjunction bit_or
        (λ x y. chosen (is_true x) (Truth true) y)
        (λ x y p f g. choice_fits (is_true x) (Truth true) y (truth_fits true) g)
        (λ x y p f g. disjunctions x y p) (λ h a c. refl)
        w id s x y r stands hx hy p;
  }

pub operates_bitwise : (op : ROp) → is_bitwise op ≡ true → (first at : ℕ) (old mid : VProc)
    (left : ℕ) (target right : VarId) → Begins first at old mid left target.0 → right.0 <
    length old.vars → first ≤ length old.vars →
    Operates op first at old (with_instr at (bitwise_of op target right) mid) left right.0 target.0
operates_bitwise Both e first at old mid left target right b named low =
    both_operates first at old mid left target right b named low
operates_bitwise Either e first at old mid left target right b named low =
    either_operates first at old mid left target right b named low
operates_bitwise Mul e first at old mid left target right b named low = absurd (cc)
operates_bitwise Div e first at old mid left target right b named low = absurd (cc)
operates_bitwise Mod e first at old mid left target right b named low = absurd (cc)
operates_bitwise Add e first at old mid left target right b named low = absurd (cc)
operates_bitwise Sub e first at old mid left target right b named low = absurd (cc)
operates_bitwise Equal e first at old mid left target right b named low = absurd (cc)
operates_bitwise Unequal e first at old mid left target right b named low = absurd (cc)
operates_bitwise Less e first at old mid left target right b named low = absurd (cc)
operates_bitwise LessEqual e first at old mid left target right b named low = absurd (cc)
operates_bitwise Greater e first at old mid left target right b named low = absurd (cc)
operates_bitwise GreaterEqual e first at old mid left target right b named low = absurd (cc)
