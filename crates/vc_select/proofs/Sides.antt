-- Operators: what their sides are, and that the code of both sides and of the operator gives the
-- value.
use Rattle.std.proofs.Common.{◌≡◌, ℕ, ◌<◌, Bool, true, false, List, length, Ok, refl, sym, ap, ◌∙◌}
use Rattle.std.proofs.Common.{subst, inl, inr}
use Rattle.std.specs.Prelude.{◌&&◌, nat_eq, if◌then◌else◌}
use Rattle.std.proofs.lemmas.Bool.{eqb-true}
use Rattle.pra_list.specs.Results.{◌>>=◌}
use Rattle.pra_list.proofs.Choices.{and_true}
use Rattle.pra_base.specs.declared.code.VProc.{VProc}
use Rattle.ob_syntax.specs.Expressions.{integer, boolean}
use Rattle.ob_syntax.specs.Operators.{Outcome, is_true, both, either}
use Rattle.ob_syntax.specs.declared.checked.ROp.{ROp}
use Rattle.ob_syntax.specs.declared.checked.ROp.TheVariants.{Mul, Div, Mod, Both, Add, Sub, Either}
use Rattle.ob_syntax.specs.declared.checked.ROp.TheVariants.{Equal, Unequal, Less, LessEqual}
use Rattle.ob_syntax.specs.declared.checked.ROp.TheVariants.{Greater, GreaterEqual}
use Rattle.ob_syntax.specs.declared.checked.Value.{Value}
use Rattle.ob_syntax.specs.declared.checked.Value.TheVariants.{Truth}
use Rattle.ob_mean.specs.Expressions.{Evaluation}
use Rattle.ob_mean.specs.Store.{Store}
use Rattle.ob_mean.specs.declared.store.LiveCall.{LiveCall}
use Rattle.vc_expr.specs.Operators.{IsBit, Suits, of_values, Operates, is_bitwise}
use Rattle.vc_select.specs.declared.target.Setting.{Setting}
use Rattle.vc_typed.specs.Typing.{Typing, is_of, binary_typing}
use Rattle.vc_select.specs.Selects.{Selects, sided, joined, NeverTraps}
use Rattle.vc_select.proofs.Forms.{selects_two}

pub of_type : (type_id : ℕ) (t : Typing) → is_of type_id t ≡ true → (t.good ≡ true) ×
    (t.type_id ≡ type_id)
of_type type_id t e = let p = and_true t.good (nat_eq t.type_id type_id) e in
    (p.0, eqb-true t.type_id type_id p.1)

-- both sides are of a type
both_of : (a b : ℕ) (left right : Typing) → (is_of a left && is_of b right) ≡ true →
    (left.good ≡ true) × (right.good ≡ true)
both_of a b left right e = let p = and_true (is_of a left) (is_of b right) e in
    ((of_type a left p.0).0, (of_type b right p.1).0)

same_of : (left right : Typing) → (left.good && is_of left.type_id right) ≡ true →
    (left.good ≡ true) × (right.good ≡ true)
same_of left right e = let p = and_true left.good (is_of left.type_id right) e in
    (p.0, (of_type left.type_id right p.1).0)

pub sides_good : (op : ROp) (left right : Typing) → (binary_typing op left right).good ≡ true →
    (left.good ≡ true) × (right.good ≡ true)
sides_good Both left right e = both_of boolean boolean left right e
sides_good Either left right e = both_of boolean boolean left right e
sides_good Equal left right e = same_of left right e
sides_good Unequal left right e = same_of left right e
sides_good Mul left right e = both_of integer integer left right e
sides_good Div left right e = both_of integer integer left right e
sides_good Mod left right e = both_of integer integer left right e
sides_good Add left right e = both_of integer integer left right e
sides_good Sub left right e = both_of integer integer left right e
sides_good Less left right e = both_of integer integer left right e
sides_good LessEqual left right e = both_of integer integer left right e
sides_good Greater left right e = both_of integer integer left right e
sides_good GreaterEqual left right e = both_of integer integer left right e

-- the sides of `&` and OR are BOOLEAN
pub boolean_sides : (left right : Typing) → (is_of boolean left && is_of boolean right) ≡ true →
    (left.type_id ≡ boolean) × (right.type_id ≡ boolean)
boolean_sides left right e = let p = and_true (is_of boolean left) (is_of boolean right) e in
    ((of_type boolean left p.0).1, (of_type boolean right p.1).1)

pub truth_bit : (b : Bool) → IsBit (Truth b)
truth_bit true = inr refl
truth_bit false = inl refl

module _ (left right : Typing) (x y : Value) (bit_x : left.type_id ≡ boolean → IsBit x)
    (bit_y : right.type_id ≡ boolean → IsBit y) where
  suit : (is_of boolean left && is_of boolean right) ≡ true → IsBit x × IsBit y
  suit e = let p = boolean_sides left right e in (bit_x p.0, bit_y p.1)

  suits : (op : ROp) → (binary_typing op left right).good ≡ true → Suits op x y
  suits Both e = suit e
  suits Either e = suit e
  suits Equal e = tt
  suits Unequal e = tt
  suits Mul e = tt
  suits Div e = tt
  suits Mod e = tt
  suits Add e = tt
  suits Sub e = tt
  suits Less e = tt
  suits LessEqual e = tt
  suits Greater e = tt
  suits GreaterEqual e = tt

  ok_same : (a b : Value) → ◌≡◌ {A = Outcome} (Ok a) (Ok b) → a ≡ b
  ok_same a b e = cc

  truth_only : (b : Bool) (z : Value) → ◌≡◌ {A = Outcome} (Ok (Truth b)) (Ok z) → IsBit z
  truth_only b z e = subst IsBit (ok_same (Truth b) z e) (truth_bit b)

  chosen_bit : (b : Bool) (one other z : Value) → IsBit one → IsBit other →
      ◌≡◌ {A = Outcome} (if b then Ok one else Ok other) (Ok z) → IsBit z
  chosen_bit true one other z p q e = subst IsBit (ok_same one z e) p
  chosen_bit false one other z p q e = subst IsBit (ok_same other z e) q

  no_boolean : (z : Value) → integer ≡ boolean → IsBit z
  no_boolean z e = absurd (cc)

  bits : (op : ROp) (z : Value) → (binary_typing op left right).good ≡ true →
      (binary_typing op left right).type_id ≡ boolean → of_values op x y ≡ Ok z → IsBit z
  bits Both z e t is = chosen_bit (is_true x) y (Truth false) z (suit e).1 (truth_bit false) is
  bits Either z e t is = chosen_bit (is_true x) (Truth true) y z (truth_bit true) (suit e).1 is
  bits Equal z e t is = truth_only _ z is
  bits Unequal z e t is = truth_only _ z is
  bits Less z e t is = truth_only _ z is
  bits LessEqual z e t is = truth_only _ z is
  bits Greater z e t is = truth_only _ z is
  bits GreaterEqual z e t is = truth_only _ z is
  bits Mul z e t is = no_boolean z t
  bits Div z e t is = no_boolean z t
  bits Mod z e t is = no_boolean z t
  bits Add z e t is = no_boolean z t
  bits Sub z e t is = no_boolean z t

module _ (op : ROp) (g : Setting) (old one two new : VProc) (from between to u v r : ℕ)
    (left right : Typing) (e f : Evaluation) (named : u < length one.vars)
    (p : Selects g old one from between u left e) (q : Selects g one two between to v right f)
    (o : Operates op (length old.vars) to two new u v r) where
  pub selects_sides : Selects g old new from to r (binary_typing op left right) (sided op e f)
  selects_sides =
      selects_two g old one two new from between to u v r left right (binary_typing op left right) e
      f (of_values op) named p q o.adds.grows o.adds.is_open (sides_good op left right)
      (λ x y z bit_x bit_y good t is. bits left right x y bit_x bit_y op z good t is)
      (λ good w s x y runs stands hx hy bit_x bit_y. o.means w g.id.0 s x y runs stands hx hy
      (suits left right x y bit_x bit_y op good))

-- ---- where both sides may be evaluated

module _ (e f : Evaluation) (calls : List LiveCall) (store : Store) where
  pub joined_sided : (op : ROp) → is_bitwise op ≡ false → joined op e f calls store ≡
      sided op e f calls store
  joined_sided Both no_bits = cc
  joined_sided Either no_bits = cc
  joined_sided Equal no_bits = refl
  joined_sided Unequal no_bits = refl
  joined_sided Mul no_bits = refl
  joined_sided Div no_bits = refl
  joined_sided Mod no_bits = refl
  joined_sided Add no_bits = refl
  joined_sided Sub no_bits = refl
  joined_sided Less no_bits = refl
  joined_sided LessEqual no_bits = refl
  joined_sided Greater no_bits = refl
  joined_sided GreaterEqual no_bits = refl

  pub joined_safe : (op : ROp) → is_bitwise op ≡ true → NeverTraps f → joined op e f calls store ≡
      sided op e f calls store
  joined_safe Both bitwise never =
      let y = never calls store in
      ap (λ r. e calls store >>= λ x. both x r) y.1
      ∙ sym (ap (λ (r : Outcome). e calls store >>= λ x. r >>= λ z. both x (Ok z)) y.1)
  joined_safe Either bitwise never =
      let y = never calls store in
      ap (λ r. e calls store >>= λ x. either x r) y.1
      ∙ sym (ap (λ (r : Outcome). e calls store >>= λ x. r >>= λ z. either x (Ok z)) y.1)
  joined_safe Equal bitwise never = cc
  joined_safe Unequal bitwise never = cc
  joined_safe Mul bitwise never = cc
  joined_safe Div bitwise never = cc
  joined_safe Mod bitwise never = cc
  joined_safe Add bitwise never = cc
  joined_safe Sub bitwise never = cc
  joined_safe Less bitwise never = cc
  joined_safe LessEqual bitwise never = cc
  joined_safe Greater bitwise never = cc
  joined_safe GreaterEqual bitwise never = cc
