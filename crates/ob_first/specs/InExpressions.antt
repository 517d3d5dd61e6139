-- Where an expression breaks a rule at a place, whatever else is broken in it.
use Rattle.std.specs.Prelude.{◌≡◌, ℕ, ◌⊎◌, List, [], ◌∷◌, map, Some, Ok, Err, slice_get}
use Rattle.pra_list.specs.Among.{Among}
use Rattle.ob_syntax.specs.declared.checked.ROp.TheVariants as op
use Rattle.ob_syntax.specs.declared.checked.RExpr.{RExpr}
use Rattle.ob_syntax.specs.declared.checked.ROp.{ROp}
use Rattle.ob_syntax.specs.declared.checked.RStep.{RStep}
use Rattle.ob_syntax.specs.declared.checked.Typed.{Typed}
use Rattle.ob_syntax.specs.declared.tree.Designator.{Designator, out-Designator}
use Rattle.ob_syntax.specs.declared.tree.Expr.{Expr, out-Expr}
use Rattle.ob_syntax.specs.declared.tree.Factor.{Factor, out-Factor}
use Rattle.ob_syntax.specs.declared.tree.FactorForm.{FactorForm-F, out-FactorForm}
use Rattle.ob_syntax.specs.declared.tree.NextFactor.{NextFactor, out-NextFactor}
use Rattle.ob_syntax.specs.declared.tree.NextTerm.{NextTerm, out-NextTerm}
use Rattle.ob_syntax.specs.declared.tree.Relation.{Relation, out-Relation}
use Rattle.ob_syntax.specs.declared.tree.Selector.{Selector, out-Selector}
use Rattle.ob_syntax.specs.declared.tree.SelectorForm.{SelectorForm-F, out-SelectorForm}
use Rattle.ob_syntax.specs.declared.tree.SimpleExpr.{SimpleExpr, out-SimpleExpr}
use Rattle.ob_syntax.specs.declared.tree.Term.{Term, out-Term}
use Rattle.ob_syntax.specs.Expressions.{Phrase, Next, Selected, integer, boolean, of_type, operand}
use Rattle.ob_syntax.specs.Expressions.{compared_alike, field, element, chained, signed_term}
use Rattle.ob_syntax.specs.Expressions.{designated, expression, simple_expression, whole_term}
use Rattle.ob_syntax.specs.Expressions.{whole_factor, following_term, following_factor, comparison}
use Rattle.ob_syntax.specs.Expressions.{one_selector}
use Rattle.ob_syntax.specs.Names.{Fault, Judged, Place, used}
use Rattle.ob_first.specs.Faults.{Fails, BothFail, NameFails}
use Rattle.pra_list.specs.Results.{◌>>=◌}

-- ---- operators

-- an operand that has a reading is not of the operator's type
abbrev pub OperandFails : Place → ROp → Phrase → Fault → Type 0
OperandFails p op e f = Fails (e.judge p) (operand op e.last) f

-- the chain so far is tested as the left operand of the next operator, and what stands behind an
-- operator as its right operand
abbrev pub ChainFails : Place → ℕ → Judged Typed → List Next → Fault → Type 0
ChainFails p last so_far [] f = ⊥
ChainFails p last so_far (next ∷ rest) f =
    Fails so_far (operand next.0 last) f ⊎ (OperandFails p next.0 next.1 f ⊎
    ChainFails p next.1.last (so_far >>= λ e. chained p last e (next ∷ [])) rest f)

-- the sides of `=` and `#` are tested together, those of `<` and the others each by itself
abbrev pub RelationFails : Place → Phrase → Next → Fault → Type 0
RelationFails p left (op.Equal, right) f =
    BothFail (left.judge p) (right.judge p) (compared_alike op.Equal right.last) f
RelationFails p left (op.Unequal, right) f =
    BothFail (left.judge p) (right.judge p) (compared_alike op.Unequal right.last) f
RelationFails p left (op, right) f = OperandFails p op left f ⊎ OperandFails p op right f

-- the first term with its sign
abbrev pub signed : Place → SimpleExpr → Judged Typed
signed p e =
    let first = whole_term (out-SimpleExpr e).first in
    first.judge p >>= signed_term (out-SimpleExpr e).sign first.last

-- ---- names with selectors

-- a name without its selectors
abbrev pub bare : ℕ → Selected
bare k = record { name = k; selectors = [] }

-- an index, where it is a number
abbrev pub index_of : Place → Expr → Judged RExpr
index_of p e = (expression e).judge p >>= of_type 14 integer (expression e).last

-- an element of a variable of this type
abbrev pub element_of : Place → ℕ → ℕ → RExpr → Judged (RStep × ℕ)
element_of p type_id token index = element token index (slice_get p.types type_id)

-- a variable of this type has no such field, or no elements; an index is tested before
abbrev pub SelectorFails : Place → ℕ → Selector → Fault → Type 0
SelectorFails p type_id s f = elim (out-SelectorForm (out-Selector s).form) [
  | SelectorForm-F.Field k ↦ field p k type_id (slice_get p.types type_id) ≡ Err f
  | SelectorForm-F.Index e ↦
      Fails (index_of p e) (element_of p type_id (out-Selector s).span.last) f
]

-- each selector is tested on what those before it lead to
abbrev pub SelectorsFail : Place → ℕ → List Selector → Fault → Type 0
SelectorsFail p type_id [] f = ⊥
SelectorsFail p type_id (s ∷ ss) f =
    SelectorFails p type_id s f ⊎
    ((r : RStep × ℕ) × (one_selector s p type_id ≡ Ok r) × SelectorsFail p r.1 ss f)

-- ---- expressions

mutual
  pub data InExpression (p : Place) : Expr → Fault → Type 0 where
    left : (e : Expr) (f : Fault) → InSimple p (out-Expr e).left f → InExpression p e f
    right : (e : Expr) (f : Fault) (r : Relation) → (out-Expr e).relation ≡ Some r →
        InSimple p (out-Relation r).right f → InExpression p e f
    related : (e : Expr) (f : Fault) (r : Relation) → (out-Expr e).relation ≡ Some r →
        RelationFails p (simple_expression (out-Expr e).left) (comparison r) f →
        InExpression p e f

  pub data InSimple (p : Place) : SimpleExpr → Fault → Type 0 where
    first_term : (e : SimpleExpr) (f : Fault) → InTerm p (out-SimpleExpr e).first f →
        InSimple p e f
    next_term : (e : SimpleExpr) (f : Fault) (n : NextTerm) → Among n (out-SimpleExpr e).rest →
        InTerm p (out-NextTerm n).term f → InSimple p e f
    sign : (e : SimpleExpr) (f : Fault) →
        Fails ((whole_term (out-SimpleExpr e).first).judge p) (signed_term (out-SimpleExpr e).sign
        (whole_term (out-SimpleExpr e).first).last) f → InSimple p e f
    terms : (e : SimpleExpr) (f : Fault) →
        ChainFails p (whole_term (out-SimpleExpr e).first).last (signed p e)
        (map following_term (out-SimpleExpr e).rest) f → InSimple p e f

  pub data InTerm (p : Place) : Term → Fault → Type 0 where
    first_factor : (t : Term) (f : Fault) → InFactor p (out-Term t).first f → InTerm p t f
    next_factor : (t : Term) (f : Fault) (n : NextFactor) → Among n (out-Term t).rest →
        InFactor p (out-NextFactor n).factor f → InTerm p t f
    factors : (t : Term) (f : Fault) →
        ChainFails p (whole_factor (out-Term t).first).last
        ((whole_factor (out-Term t).first).judge p) (map following_factor (out-Term t).rest) f →
        InTerm p t f

  pub data InFactor (p : Place) : Factor → Fault → Type 0 where
    inside : (x : Factor) (f : Fault) (e : Expr) →
        out-FactorForm (out-Factor x).form ≡ FactorForm-F.Paren e → InExpression p e f →
        InFactor p x f
    negated : (x : Factor) (f : Fault) (y : Factor) →
        out-FactorForm (out-Factor x).form ≡ FactorForm-F.Not y → InFactor p y f → InFactor p x f
    negation : (x : Factor) (f : Fault) (y : Factor) →
        out-FactorForm (out-Factor x).form ≡ FactorForm-F.Not y →
        Fails ((whole_factor y).judge p) (of_type 16 boolean (whole_factor y).last) f →
        InFactor p x f
    index : (x : Factor) (f : Fault) (d : Designator) (s : Selector) →
        out-FactorForm (out-Factor x).form ≡ FactorForm-F.Name d →
        Among s (out-Designator d).selectors → InSelector p s f → InFactor p x f
    name : (x : Factor) (f : Fault) (d : Designator) →
        out-FactorForm (out-Factor x).form ≡ FactorForm-F.Name d →
        NameFails p (out-Designator d).name (designated p (bare (out-Designator d).name)) f →
        InFactor p x f
    selectors : (x : Factor) (f : Fault) (d : Designator) (v : Typed) →
        out-FactorForm (out-Factor x).form ≡ FactorForm-F.Name d →
        (used p (out-Designator d).name >>= designated p (bare (out-Designator d).name)) ≡ Ok v →
        SelectorsFail p v.type_id (out-Designator d).selectors f → InFactor p x f

  -- rules that the index of a selector breaks
  pub data InSelector (p : Place) : Selector → Fault → Type 0 where
    in_index : (s : Selector) (f : Fault) (e : Expr) →
        out-SelectorForm (out-Selector s).form ≡ SelectorForm-F.Index e → InExpression p e f →
        InSelector p s f
    no_number : (s : Selector) (f : Fault) (e : Expr) →
        out-SelectorForm (out-Selector s).form ≡ SelectorForm-F.Index e →
        Fails ((expression e).judge p) (of_type 14 integer (expression e).last) f →
        InSelector p s f
