-- The rules of declared constants and of types: what a type expression of the source is at a place.
use Rattle.std.specs.Prelude.{ℕ, pos, List, [], ◌∷◌, ◌++◌, length, Option, Some, None, Ok, Err}
use Rattle.std.specs.Prelude.{nat_abs, int_lt, bytes_eq, if◌then◌else◌}
use Rattle.std.specs.List.{list_any}
use Rattle.ob_syntax.specs.declared.tree.Expr.{Expr, out-Expr}
use Rattle.ob_syntax.specs.declared.tree.NameList.{NameList, NameList-F, fold-NameList}
use Rattle.ob_syntax.specs.declared.tree.TypeExpr.{TypeExpr, TypeExpr-F, fold-TypeExpr}
use Rattle.ob_syntax.specs.declared.tree.TypeForm.{TypeForm-F}
use Rattle.ob_syntax.specs.declared.checked.Meaning.{Meaning}
use Rattle.ob_syntax.specs.declared.checked.Meaning.TheVariants.{TypeName}
use Rattle.ob_syntax.specs.declared.checked.ROp.{ROp}
use Rattle.ob_syntax.specs.declared.checked.RExpr.{RExpr, RExpr-F, fold-RExpr}
use Rattle.ob_syntax.specs.declared.checked.Shape.{Shape}
use Rattle.ob_syntax.specs.declared.checked.Shape.TheVariants.{Array, Record}
use Rattle.ob_syntax.specs.declared.checked.Value.{Value}
use Rattle.ob_syntax.specs.declared.checked.Value.TheVariants.{Number, Truth}
use Rattle.ob_syntax.specs.Expressions.{expression}
use Rattle.ob_syntax.specs.Names.{Judged, Place, name_at, used}
use Rattle.ob_syntax.specs.Operators.{Outcome, negated, inverted, combined}
use Rattle.pra_list.specs.Results.{◌>>=◌}
use Rattle.ob_syntax.specs.Source.{Name}

-- ---- constants: what an expression is worth that names no variable; None, where it names one

abbrev pub Worth : Type 0
Worth = Option Outcome

abbrev pub worth_of_one : (Value → Value) → Worth → Worth
worth_of_one f None = None
worth_of_one f (Some o) = Some (o >>= λ v. Ok (f v))

abbrev pub worth_of_both : ROp → Worth → Worth → Worth
worth_of_both op (Some left) (Some right) = Some (combined op left right)
worth_of_both op _ _ = None

abbrev pub worth_step : RExpr-F Worth (Unit {0}) (Unit {0}) → Worth
worth_step (RExpr-F.Number n) = Some (Ok (Number n))
worth_step (RExpr-F.Truth b) = Some (Ok (Truth b))
worth_step (RExpr-F.Var v) = None
worth_step (RExpr-F.Negate e) = worth_of_one negated e
worth_step (RExpr-F.Not e) = worth_of_one inverted e
worth_step (RExpr-F.Binary op left right) = worth_of_both op left right

abbrev pub worth : RExpr → Worth
worth = fold-RExpr Worth (Unit {0}) (Unit {0}) worth_step (λ _. tt) (λ _. tt)

-- rule 24: a constant's or a length's expression names a variable or parameter, traps, or has no
-- scalar type; what is not scalar is a variable
abbrev pub constant_of : ℕ → Worth → Judged Value
constant_of token (Some (Ok v)) = Ok v
constant_of token _ = Err (24, token)

abbrev pub constant : Place → Expr → Judged Value
constant p e = do
  typed ← (expression e).judge p
  constant_of (out-Expr e).span.last (worth typed.expr)

-- rule 24: a length is not INTEGER or is less than 1
abbrev pub length_of : ℕ → Value → Judged ℕ
length_of token (Number n) = if int_lt (pos 0) n then Ok (nat_abs n) else Err (24, token)
length_of token (Truth b) = Err (24, token)

abbrev pub array_length : Place → Expr → Judged ℕ
array_length p e = do
  v ← constant p e
  length_of (out-Expr e).span.last v

-- ---- types

-- the place behind a type expression, and the number of the type
abbrev pub Shaped : Type 0
Shaped = Place → Judged (Place × ℕ)

-- the place with one more type
abbrev pub with_type : Place → Shape → List Name → Place × ℕ
with_type p shape names =
    (record p { types = p.types ++ shape ∷ []; fields = p.fields ++ names ∷ [] }, length p.types)

abbrev pub with_length : Place → ℕ → Place
with_length p n = record p { lengths = p.lengths ++ n ∷ [] }

-- rule 8: a name that stands as a type is not a type
abbrev pub named_type : ℕ → Meaning → Judged ℕ
named_type token (TypeName type_id) = Ok type_id
named_type token m = Err (8, token)

-- rule 4: a field name stands twice in a record
abbrev pub with_fields : Place → List Name → List ℕ → Judged (List Name)
with_fields p names [] = Ok names
with_fields p names (k ∷ ks) =
    if list_any (bytes_eq (name_at p k)) names then Err (4, k)
    else with_fields p (names ++ name_at p k ∷ []) ks

-- one type for each of the names
abbrev pub with_types : List ℕ → ℕ → List ℕ → List ℕ
with_types types type_id [] = types
with_types types type_id (k ∷ ks) = with_types (types ++ type_id ∷ []) type_id ks

-- the names and the types of the fields so far, and the place behind them
pub record Fields : Type 0 where
  pub place : Place
  pub names : List Name
  pub types : List ℕ

abbrev pub FieldsAfter : Type 0
FieldsAfter = Fields → Judged Fields

abbrev pub all_fields : Fields → List FieldsAfter → Judged Fields
all_fields so_far [] = Ok so_far
all_fields so_far (list ∷ lists) = do
  more ← list so_far
  all_fields more lists

abbrev pub type_form : TypeForm-F Shaped FieldsAfter Shaped → Shaped
type_form (TypeForm-F.Name k) p = do
  m ← used p k
  type_id ← named_type k m
  Ok (p, type_id)
type_form (TypeForm-F.Array count item) p = do
  n ← array_length p count
  inner ← item (with_length p n)
  Ok (with_type inner.0 (Array n inner.1) [])
type_form (TypeForm-F.Record lists) p = do
  fields ← all_fields (record { place = p; names = []; types = [] }) lists
  Ok (with_type fields.place (Record fields.types) fields.names)

abbrev pub field_list : NameList-F Shaped FieldsAfter Shaped → FieldsAfter
field_list list so_far = do
  names ← with_fields so_far.place so_far.names list.names
  shape ← list.shape so_far.place
  Ok (record { place = shape.0; names = names; types = with_types so_far.types shape.1 list.names })

abbrev pub type_step : TypeExpr-F Shaped FieldsAfter Shaped → Shaped
type_step t = t.form

abbrev pub type_expression : TypeExpr → Shaped
type_expression = fold-TypeExpr Shaped FieldsAfter Shaped type_form field_list type_step

abbrev pub fields_of : NameList → FieldsAfter
fields_of = fold-NameList Shaped FieldsAfter Shaped type_form field_list type_step
