-- An instruction that computes into a new variable, and relations.
use Rattle.std.proofs.Common.{◌≡◌, ℕ, ◌<◌, ◌≤◌, Bool, true, false, not, [], ◌∷◌, length, Some, Ok}
use Rattle.std.proofs.Common.{refl, sym, ap, ◌∙◌, subst, arith}
use Rattle.std.specs.Prelude.{ℤ, int_lt, int_le, ◌==◌}
use Rattle.std.specs.Ordering.{int_eq}
use Rattle.std.specs.Int.{w32}
use Rattle.std.specs.Int.RustNames.{FitsSigned}
use Rattle.std.proofs.lemmas.Bool.Decides.{same_from_decides, Decides-eqb, Decides-int_eq}
use Rattle.std.proofs.lemmas.Int.{to_z-of_z}
use Rattle.vc_expr.proofs.Truths.{truth_fits}
use Rattle.pra_base.specs.Code.{kind_of}
use Rattle.pra_base.specs.Words.{word, signed, compares, truth}
use Rattle.pra_base.specs.declared.ids.VarId.{VarId}
use Rattle.pra_base.specs.declared.ids.Cond.{Cond}
use Rattle.pra_base.specs.declared.code.VarKind.TheVariants.{Plain}
use Rattle.pra_base.specs.declared.code.VInstr.{VInstr}
use Rattle.pra_base.specs.declared.code.VInstr.TheVariants.{CmpSet}
use Rattle.pra_base.specs.declared.code.VProc.{VProc}
use Rattle.ob_syntax.specs.Operators.{number}
use Rattle.ob_syntax.specs.declared.checked.ROp.{ROp}
use Rattle.ob_syntax.specs.declared.checked.ROp.TheVariants.{Mul, Div, Mod, Both, Add, Sub, Either}
use Rattle.ob_syntax.specs.declared.checked.ROp.TheVariants.{Equal, Unequal, Less, LessEqual}
use Rattle.ob_syntax.specs.declared.checked.ROp.TheVariants.{Greater, GreaterEqual}
use Rattle.ob_syntax.specs.declared.checked.Value.{Value}
use Rattle.ob_syntax.specs.declared.checked.Value.TheVariants.{Truth}
use Rattle.vc_code.specs.declared.action.Action.TheVariants.{Give}
use Rattle.vc_code.specs.declared.value.Value.TheVariants.{Num}
use Rattle.vc_code.specs.Machine.{here}
use Rattle.vc_code.specs.Operation.{operate}
use Rattle.vc_code.specs.Selected.{read, held_by, shape, code_of}
use Rattle.vc_build.specs.Grow.{IsOpen, with_instr, with_variable}
use Rattle.vc_build.specs.Runs.{acted, Yields}
use Rattle.vc_build.proofs.Growth.{grows_at_again, put_open, put_grows, declared_kind}
use Rattle.vc_build.proofs.Growth.{declared_count, declared_grows}
use Rattle.vc_build.proofs.Steps.{same_self, gives}
use Rattle.vc_expr.specs.Operators.{is_relation, condition_of, Gives, of_values, Operates}
use Rattle.vc_expr.proofs.Starts.{reads_are}
use Rattle.vc_expr.proofs.Operations.{gives_since}

-- ---- relations of words are those of numbers

pub back : (a : ℤ) → FitsSigned w32 a → signed (word a) ≡ a
back a f = to_z-of_z w32 a f

equal_words : (a b : ℤ) → FitsSigned w32 a → FitsSigned w32 b → (word a == word b) ≡ int_eq a b
equal_words a b f g =
    same_from_decides (word a == word b) (int_eq a b) (
      (λ t. sym (back a f) ∙ ap signed ((Decides-eqb (word a) (word b)).0 t) ∙ back b g),
      (λ e. (Decides-eqb (word a) (word b)).1 (ap word e)),
    )
    (Decides-int_eq a b)

-- the same test of what the words are
by_numbers : (test : ℤ → ℤ → Bool) (a b : ℤ) → FitsSigned w32 a → FitsSigned w32 b →
    test (signed (word a)) (signed (word b)) ≡ test a b
by_numbers test a b f g = ap (λ x. test x (signed (word b))) (back a f) ∙ ap (test a) (back b g)

word_of_truth : (b : Bool) → truth b ≡ word (number (Truth b))
word_of_truth true = refl
word_of_truth false = refl

module _ (first at : ℕ) (old : VProc) (target left right : VarId) (o : IsOpen old at)
    (is_new : target.0 ≡ length old.vars) (low : first ≤ length old.vars) (k : Cond) (op : ROp)
    (related : ℤ → ℤ → Bool)
    (is : (x y : Value) → of_values op x y ≡ Ok (Truth (related (number x) (number y))))
    (holds : (a b : ℤ) → FitsSigned w32 a → FitsSigned w32 b → compares k (word a) (word b) ≡
    related a b) where
  abbrev mid : VProc
  mid = with_variable Plain old

  abbrev i : VInstr
  i = CmpSet k target left right

  abbrev new : VProc
  new = with_instr at i mid

  mid_open : IsOpen mid at
  mid_open = o

  declared : target.0 < length mid.vars
  declared = omega (arith, is_new, declared_count Plain old)

  plain : kind_of new target.0 ≡ Plain
  plain = ap (kind_of mid) is_new ∙ declared_kind Plain old

  abbrev answer : Value → Value → Value
  answer x y = Truth (related (number x) (number y))

  relation_operates : Operates op first at old new left.0 right.0 target.0
  relation_operates = record {
    adds = record {
      grows = grows_at_again old mid new at (declared_grows Plain old at)
          (put_grows at i mid mid_open);
      is_open = put_open at i mid mid_open;
      named = declared;
      above = omega (arith, is_new, low);
      plain = plain;
    };
    means = λ w id s x y r stands hx hy p.
        let held : held_by (code_of w.procs s.top.proc) s.top (left.0 ∷ right.0 ∷ []) ≡
        Some (Num (word (number x))) ∷ Some (Num (word (number y))) ∷ [] =
        reads_are w id s r.proc (left.0 ∷ right.0 ∷ [])
        ∙ ap (λ h. h ∷ read (kind_of (code_of w.procs id)) s.top.home.held right.0 ∷ []) hx.held
        ∙ ap (λ h. Some (Num (word (number x))) ∷ h ∷ []) hy.held in
        let does : acted w i s ≡ Some (Give (Num (word (number (answer x y))))) =
        ap (operate (here (shape w.procs w.frames) s) i) held
        ∙ ap (λ b. Some (Give (Num (truth b)))) (holds (number x) (number y) hx.fits hy.fits)
        ∙ ap (λ n. Some (Give (Num n))) (word_of_truth (related (number x) (number y))) in
        subst (Yields w s (Gives w id new at target.0 first s.top)) (sym (is x y))
        (gives_since w id new at target.0 first s s.top s.top (answer x y)
        (truth_fits (related (number x) (number y))) (same_self first s.top)
        (gives w id at mid s mid_open (record { block = stands.block; index = stands.index }) i r
        target.0 first (Num (word (number (answer x y)))) refl does (omega (arith, is_new, low))
        (r.holds.kinds target.0 declared ∙ plain) (omega (arith, declared, r.holds.vars))));
  }

pub operates_relation : (op : ROp) → is_relation op ≡ true → (first at : ℕ) (old : VProc)
    (target left right : VarId) → IsOpen old at → target.0 ≡ length old.vars →
    first ≤ length old.vars →
    Operates op first at old
    (with_instr at (CmpSet (condition_of op) target left right) (with_variable Plain old))
    left.0 right.0 target.0
operates_relation Equal e first at old target left right o n low =
    relation_operates first at old target left right o n low (condition_of Equal) Equal int_eq
    (λ x y. refl) equal_words
operates_relation Unequal e first at old target left right o n low =
    relation_operates first at old target left right o n low (condition_of Unequal) Unequal
    (λ a b. not (int_eq a b)) (λ x y. refl) (λ a b f g. ap not (equal_words a b f g))
operates_relation Less e first at old target left right o n low =
    relation_operates first at old target left right o n low (condition_of Less) Less int_lt
    (λ x y. refl) (by_numbers int_lt)
operates_relation LessEqual e first at old target left right o n low =
    relation_operates first at old target left right o n low (condition_of LessEqual) LessEqual
    int_le (λ x y. refl) (by_numbers int_le)
operates_relation Greater e first at old target left right o n low =
    relation_operates first at old target left right o n low (condition_of Greater) Greater
    (λ a b. int_lt b a) (λ x y. refl) (by_numbers (λ a b. int_lt b a))
operates_relation GreaterEqual e first at old target left right o n low =
    relation_operates first at old target left right o n low (condition_of GreaterEqual)
    GreaterEqual (λ a b. int_le b a) (λ x y. refl) (by_numbers (λ a b. int_le b a))
operates_relation Mul e first at old target left right o n low = absurd (cc)
operates_relation Div e first at old target left right o n low = absurd (cc)
operates_relation Mod e first at old target left right o n low = absurd (cc)
operates_relation Both e first at old target left right o n low = absurd (cc)
operates_relation Add e first at old target left right o n low = absurd (cc)
operates_relation Sub e first at old target left right o n low = absurd (cc)
operates_relation Either e first at old target left right o n low = absurd (cc)

-- what a relation gives, and what its condition says of the words
pub record Related (op : ROp) (x y : Value) : Type 0 where
  pub answer : Bool
  pub value : of_values op x y ≡ Ok (Truth answer)
  pub words : compares (condition_of op) (word (number x)) (word (number y)) ≡ answer

pub related_words : (op : ROp) → is_relation op ≡ true → (x y : Value) → FitsSigned w32 (number x) →
    FitsSigned w32 (number y) → Related op x y
related_words Equal e x y f g =
    record {
      answer = int_eq (number x) (number y);
      value = refl;
      words =
          equal_words (number x) (number y) f g;
    }
related_words Unequal e x y f g =
    record {
      answer = not (int_eq (number x) (number y));
      value = refl;
      words =
          ap not (equal_words (number x) (number y) f g);
    }
related_words Less e x y f g =
    record {
      answer = int_lt (number x) (number y);
      value = refl;
      words =
          by_numbers int_lt (number x) (number y) f g;
    }
related_words LessEqual e x y f g =
    record {
      answer = int_le (number x) (number y);
      value = refl;
      words =
          by_numbers int_le (number x) (number y) f g;
    }
related_words Greater e x y f g =
    record {
      answer = int_lt (number y) (number x);
      value = refl;
      words =
          by_numbers (λ a b. int_lt b a) (number x) (number y) f g;
    }
related_words GreaterEqual e x y f g =
    record {
      answer = int_le (number y) (number x);
      value = refl;
      words =
          by_numbers (λ a b. int_le b a) (number x) (number y) f g;
    }
related_words Mul e x y f g = absurd (cc)
related_words Div e x y f g = absurd (cc)
related_words Mod e x y f g = absurd (cc)
related_words Both e x y f g = absurd (cc)
related_words Add e x y f g = absurd (cc)
related_words Sub e x y f g = absurd (cc)
related_words Either e x y f g = absurd (cc)
