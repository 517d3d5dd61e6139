-- The rules of expressions: what an expression of the source is read as at a place, with its type,
-- or the first rule that is broken in it. A rule is told at the last token of the phrase that
-- breaks it.
use Rattle.std.specs.Prelude.{ℕ, Bool, ◌&&◌, ◌||◌, List, [], ◌∷◌, ◌++◌, Option, Some, None, Ok, Err}
use Rattle.std.specs.Prelude.{position, slice_get, slice_index, bytes_eq, nat_eq, if◌then◌else◌}
use Rattle.ob_syntax.specs.declared.token.Kind.{Kind}
use Rattle.ob_syntax.specs.declared.token.Kind.TheVariants as kind
use Rattle.ob_syntax.specs.declared.tree.Designator.{Designator, Designator-F, fold-Designator}
use Rattle.ob_syntax.specs.declared.tree.Expr.{Expr, Expr-F, fold-Expr}
use Rattle.ob_syntax.specs.declared.tree.Factor.{Factor, Factor-F, fold-Factor}
use Rattle.ob_syntax.specs.declared.tree.FactorForm.{FactorForm-F}
use Rattle.ob_syntax.specs.declared.tree.NextFactor.{NextFactor, NextFactor-F, fold-NextFactor}
use Rattle.ob_syntax.specs.declared.tree.NextTerm.{NextTerm, NextTerm-F, fold-NextTerm}
use Rattle.ob_syntax.specs.declared.tree.Relation.{Relation, Relation-F, fold-Relation}
use Rattle.ob_syntax.specs.declared.tree.Selector.{Selector, Selector-F, fold-Selector}
use Rattle.ob_syntax.specs.declared.tree.SelectorForm.{SelectorForm-F}
use Rattle.ob_syntax.specs.declared.tree.SimpleExpr.{SimpleExpr, SimpleExpr-F, fold-SimpleExpr}
use Rattle.ob_syntax.specs.declared.tree.Term.{Term, Term-F, fold-Term}
use Rattle.ob_syntax.specs.declared.checked.Meaning.{Meaning}
use Rattle.ob_syntax.specs.declared.checked.Meaning.TheVariants.{Constant, Variable}
use Rattle.ob_syntax.specs.declared.checked.ROp.{ROp}
use Rattle.ob_syntax.specs.declared.checked.ROp.TheVariants as op
use Rattle.ob_syntax.specs.declared.checked.RExpr.{RExpr}
use Rattle.ob_syntax.specs.declared.checked.RExpr.TheVariants as x
use Rattle.ob_syntax.specs.declared.checked.Root.{Root}
use Rattle.ob_syntax.specs.declared.checked.RStep.{RStep}
use Rattle.ob_syntax.specs.declared.checked.RStep.TheVariants as step
use Rattle.ob_syntax.specs.declared.checked.RVar.{RVar, roll-RVar}
use Rattle.ob_syntax.specs.declared.checked.Shape.{Shape}
use Rattle.ob_syntax.specs.declared.checked.Shape.TheVariants.{Array, Record}
use Rattle.ob_syntax.specs.declared.checked.Typed.{Typed}
use Rattle.ob_syntax.specs.declared.checked.Value.{Value}
use Rattle.ob_syntax.specs.declared.checked.Value.TheVariants.{Number, Truth}
use Rattle.ob_syntax.specs.Names.{Judged, Place, name_at, used}
use Rattle.ob_syntax.specs.Source.{Name}
use Rattle.pra_list.specs.Results.{◌>>=◌}

-- the numbers of INTEGER and BOOLEAN
abbrev pub integer : ℕ
integer = 0

abbrev pub boolean : ℕ
boolean = 1

abbrev pub typed : ℕ → RExpr → Typed
typed type_id expr = record { type_id = type_id; expr = expr }

-- an expression of the type that is wanted, or a broken rule
abbrev pub of_type : ℕ → ℕ → ℕ → Typed → Judged RExpr
of_type rule type_id token e = if nat_eq e.type_id type_id then Ok e.expr else Err (rule, token)

-- ---- operators

abbrev pub operator : Kind → ROp
operator kind.Times = op.Mul
operator kind.KwDiv = op.Div
operator kind.KwMod = op.Mod
operator kind.Amp = op.Both
operator kind.Plus = op.Add
operator kind.Minus = op.Sub
operator kind.KwOr = op.Either
operator kind.Unequal = op.Unequal
operator kind.Less = op.Less
operator kind.LessEqual = op.LessEqual
operator kind.Greater = op.Greater
operator kind.GreaterEqual = op.GreaterEqual
operator _ = op.Equal

-- rule 16: an operand of `&`, OR or `~` is not BOOLEAN; rule 15: an operand of another operator or
-- of a sign is not INTEGER
abbrev pub operand : ROp → ℕ → Typed → Judged RExpr
operand op.Both token e = of_type 16 boolean token e
operand op.Either token e = of_type 16 boolean token e
operand _ token e = of_type 15 integer token e

abbrev pub result_type : ROp → ℕ
result_type op.Mul = integer
result_type op.Div = integer
result_type op.Mod = integer
result_type op.Add = integer
result_type op.Sub = integer
result_type _ = boolean

-- two operands that are both as the operator wants them
abbrev pub binary : ROp → RExpr → RExpr → Typed
binary op left right = typed (result_type op) (x.Binary op left right)

-- both INTEGER or both BOOLEAN
abbrev pub are_alike : ℕ → ℕ → Bool
are_alike a b = nat_eq a b && (nat_eq a integer || nat_eq a boolean)

-- ---- what a phrase gives: the number of its last token, and what it is read as at a place

pub record Phrase : Type 0 where
  pub last : ℕ
  pub judge : Place → Judged Typed

-- an operator with the operand behind it
abbrev pub Next : Type 0
Next = ROp × Phrase

-- a selector on a variable of some type
abbrev pub Selection : Type 0
Selection = Place → ℕ → Judged (RStep × ℕ)

-- a name and its selectors
pub record Selected : Type 0 where
  pub name : ℕ
  pub selectors : List Selection

-- ---- selectors

-- rule 12: the record has no such field
abbrev pub the_field : ℕ → List ℕ → Option ℕ → Judged (RStep × ℕ)
the_field token types None = Err (12, token)
the_field token types (Some k) = Ok (step.Field k, slice_index types k)

-- the names of the fields of a type; none where it is no record
abbrev pub field_names : Option (List Name) → List Name
field_names (Some names) = names
field_names None = []

-- the number of the field whose name stands at the token
abbrev pub field_number : Place → ℕ → ℕ → Option ℕ
field_number p token type_id =
    position (bytes_eq (name_at p token)) (field_names (slice_get p.fields type_id))

-- rule 11: `.f` follows what is not a record
abbrev pub field : Place → ℕ → ℕ → Option Shape → Judged (RStep × ℕ)
field p token type_id (Some (Record types)) = the_field token types (field_number p token type_id)
field p token type_id _ = Err (11, token)

-- rule 13: `[e]` follows what is not an array
abbrev pub element : ℕ → RExpr → Option Shape → Judged (RStep × ℕ)
element token index (Some (Array count item)) = Ok (step.Index index, item)
element token index _ = Err (13, token)

-- the selectors one after another, behind those that are done
abbrev pub selected : Place → List RStep → ℕ → List Selection → Judged (List RStep × ℕ)
selected p done type_id [] = Ok (done, type_id)
selected p done type_id (s ∷ ss) = do
  one ← s p type_id
  selected p (done ++ one.0 ∷ []) one.1 ss

abbrev pub variable : Root → List RStep × ℕ → RVar
variable root steps = roll-RVar (record { root = root; steps = steps.0; type_id = steps.1 })

abbrev pub literal : Value → Typed
literal (Number n) = typed integer (x.Number n)
literal (Truth b) = typed boolean (x.Truth b)

-- rule 7: a name in an expression is not a constant, variable or parameter
abbrev pub designated : Place → Selected → Meaning → Judged Typed
designated p d (Constant value) = do
  none ← selected p [] (literal value).type_id d.selectors
  Ok (literal value)
designated p d (Variable owner root type_id) = do
  steps ← selected p [] type_id d.selectors
  Ok (typed steps.1 (x.Var (variable root steps)))
designated p d _ = Err (7, d.name)

-- ---- chains of operators: the left operand is the chain so far

abbrev pub chained : Place → ℕ → Typed → List Next → Judged Typed
chained p last so_far [] = Ok so_far
chained p last so_far (next ∷ rest) = do
  left ← operand next.0 last so_far
  e ← next.1.judge p
  right ← operand next.0 next.1.last e
  chained p next.1.last (binary next.0 left right) rest

abbrev pub signed_term : Option Kind → ℕ → Typed → Judged Typed
signed_term None token e = Ok e
signed_term (Some kind.Minus) token e = do
  number ← of_type 15 integer token e
  Ok (typed integer (x.Negate number))
signed_term (Some _) token e = do
  number ← of_type 15 integer token e
  Ok (typed integer number)

-- rule 17: the sides of `=` or `#` are not both INTEGER or both BOOLEAN
abbrev pub compared_alike : ROp → ℕ → Typed → Typed → Judged Typed
compared_alike op token left right =
    if are_alike left.type_id right.type_id then Ok (binary op left.expr right.expr)
    else Err (17, token)

abbrev pub related : Place → ℕ → Typed → Next → Judged Typed
related p last left (op.Equal, right) = do
  e ← right.judge p
  compared_alike op.Equal right.last left e
related p last left (op.Unequal, right) = do
  e ← right.judge p
  compared_alike op.Unequal right.last left e
related p last left (op, right) = do
  l ← operand op last left
  e ← right.judge p
  r ← operand op right.last e
  Ok (binary op l r)

-- ---- each production, from what its parts give

abbrev pub FactorResult : Type 0
FactorResult = ℕ → Place → Judged Typed

abbrev pub SelectorResult : Type 0
SelectorResult = ℕ → Selection

abbrev pub factor_form :
    FactorForm-F FactorResult SelectorResult Selected Phrase Phrase Next Next Next
    Selection Phrase Phrase → FactorResult
factor_form (FactorForm-F.Name d) last p = do
  m ← used p d.name
  designated p d m
factor_form (FactorForm-F.Number n) last p = Ok (typed integer (x.Number n))
factor_form (FactorForm-F.Paren e) last p = e.judge p
factor_form (FactorForm-F.Not f) last p = do
  e ← f.judge p
  truth ← of_type 16 boolean f.last e
  Ok (typed boolean (x.Not truth))

-- rule 14: an index is not INTEGER
abbrev pub selector_form :
    SelectorForm-F FactorResult SelectorResult Selected Phrase Phrase Next Next Next
    Selection Phrase Phrase → SelectorResult
selector_form (SelectorForm-F.Field k) last p type_id =
    field p k type_id (slice_get p.types type_id)
selector_form (SelectorForm-F.Index e) last p type_id = do
  index ← e.judge p
  number ← of_type 14 integer e.last index
  element last number (slice_get p.types type_id)

abbrev pub designator :
    Designator-F FactorResult SelectorResult Selected Phrase Phrase Next Next Next
    Selection Phrase Phrase → Selected
designator d = record { name = d.name; selectors = d.selectors }

abbrev pub expr :
    Expr-F FactorResult SelectorResult Selected Phrase Phrase Next Next Next
    Selection Phrase Phrase → Phrase
expr e = record {
  last = e.span.last;
  judge = λ p. e.left.judge p >>= λ left. compared p left e.relation;
}
  where
    compared : Place → Typed → Option Next → Judged Typed
    compared p left None = Ok left
    compared p left (Some next) = related p e.left.last left next

abbrev pub factor :
    Factor-F FactorResult SelectorResult Selected Phrase Phrase Next Next Next
    Selection Phrase Phrase → Phrase
factor f = record { last = f.span.last; judge = f.form f.span.last }

abbrev pub next_factor :
    NextFactor-F FactorResult SelectorResult Selected Phrase Phrase Next Next Next
    Selection Phrase Phrase → Next
next_factor n = (operator n.op, n.factor)

abbrev pub next_term :
    NextTerm-F FactorResult SelectorResult Selected Phrase Phrase Next Next Next
    Selection Phrase Phrase → Next
next_term n = (operator n.op, n.term)

abbrev pub relation :
    Relation-F FactorResult SelectorResult Selected Phrase Phrase Next Next Next
    Selection Phrase Phrase → Next
relation r = (operator r.op, r.right)

abbrev pub selector :
    Selector-F FactorResult SelectorResult Selected Phrase Phrase Next Next Next
    Selection Phrase Phrase → Selection
selector s = s.form s.span.last

abbrev pub simple_expr :
    SimpleExpr-F FactorResult SelectorResult Selected Phrase Phrase Next Next Next
    Selection Phrase Phrase → Phrase
simple_expr e = record {
  last = e.span.last;
  judge = λ p. do
    first ← e.first.judge p
    left ← signed_term e.sign e.first.last first
    chained p e.first.last left e.rest;
}

abbrev pub term :
    Term-F FactorResult SelectorResult Selected Phrase Phrase Next Next Next
    Selection Phrase Phrase → Phrase
term t = record {
  last = t.span.last;
  judge = λ p. do
    first ← t.first.judge p
    chained p t.first.last first t.rest;
}

-- ---- what each phrase of the source gives

abbrev pub expression : Expr → Phrase
expression =
    fold-Expr FactorResult SelectorResult Selected Phrase Phrase Next Next Next
    Selection Phrase Phrase factor_form selector_form designator expr factor next_factor next_term
    relation selector simple_expr term

abbrev pub simple_expression : SimpleExpr → Phrase
simple_expression =
    fold-SimpleExpr FactorResult SelectorResult Selected Phrase Phrase Next Next Next
    Selection Phrase Phrase factor_form selector_form designator expr factor next_factor next_term
    relation selector simple_expr term

abbrev pub whole_term : Term → Phrase
whole_term =
    fold-Term FactorResult SelectorResult Selected Phrase Phrase Next Next Next
    Selection Phrase Phrase factor_form selector_form designator expr factor next_factor next_term
    relation selector simple_expr term

abbrev pub whole_factor : Factor → Phrase
whole_factor =
    fold-Factor FactorResult SelectorResult Selected Phrase Phrase Next Next Next
    Selection Phrase Phrase factor_form selector_form designator expr factor next_factor next_term
    relation selector simple_expr term

abbrev pub following_factor : NextFactor → Next
following_factor =
    fold-NextFactor FactorResult SelectorResult Selected Phrase Phrase Next Next Next
    Selection Phrase Phrase factor_form selector_form designator expr factor next_factor next_term
    relation selector simple_expr term

abbrev pub following_term : NextTerm → Next
following_term =
    fold-NextTerm FactorResult SelectorResult Selected Phrase Phrase Next Next Next
    Selection Phrase Phrase factor_form selector_form designator expr factor next_factor next_term
    relation selector simple_expr term

abbrev pub comparison : Relation → Next
comparison =
    fold-Relation FactorResult SelectorResult Selected Phrase Phrase Next Next Next
    Selection Phrase Phrase factor_form selector_form designator expr factor next_factor next_term
    relation selector simple_expr term

abbrev pub one_selector : Selector → Selection
one_selector =
    fold-Selector FactorResult SelectorResult Selected Phrase Phrase Next Next Next
    Selection Phrase Phrase factor_form selector_form designator expr factor next_factor next_term
    relation selector simple_expr term

abbrev pub name_with_selectors : Designator → Selected
name_with_selectors =
    fold-Designator FactorResult SelectorResult Selected Phrase Phrase Next Next Next
    Selection Phrase Phrase factor_form selector_form designator expr factor next_factor next_term
    relation selector simple_expr term
