-- Where a type expression breaks a rule at a place, whatever else is broken in it.
use Rattle.std.specs.Prelude.{◌≡◌, ℕ, ◌⊎◌, List, [], ◌∷◌, ◌++◌, map, Err}
use Rattle.ob_syntax.specs.declared.tree.Expr.{Expr, out-Expr}
use Rattle.ob_syntax.specs.declared.tree.NameList.{NameList, out-NameList}
use Rattle.ob_syntax.specs.declared.tree.TypeExpr.{TypeExpr, out-TypeExpr}
use Rattle.ob_syntax.specs.declared.tree.TypeForm.{TypeForm, TypeForm-F, out-TypeForm}
use Rattle.ob_syntax.specs.Expressions.{expression}
use Rattle.ob_syntax.specs.Names.{Fault, Place, name_at}
use Rattle.ob_syntax.specs.Source.{Name}
use Rattle.ob_syntax.specs.Types.{worth, constant_of, constant, length_of, array_length, named_type}
use Rattle.ob_syntax.specs.Types.{with_length, with_fields, Fields, fields_of}
use Rattle.ob_first.specs.Faults.{Fails, NameFails, value_or}
use Rattle.ob_first.specs.InExpressions.{InExpression}

-- ---- constants and lengths

abbrev pub InConstant : Place → Expr → Fault → Type 0
InConstant p e f =
    InExpression p e f ⊎
    Fails ((expression e).judge p) (λ x. constant_of (out-Expr e).span.last (worth x.expr)) f

abbrev pub InLength : Place → Expr → Fault → Type 0
InLength p e f =
    InConstant p e f ⊎ Fails (constant p e) (length_of (out-Expr e).span.last) f

-- ---- types

-- each name is tested against those before it, also where one of these stands twice
abbrev pub FieldNamesFail : Place → List Name → List ℕ → Fault → Type 0
FieldNamesFail p names [] f = ⊥
FieldNamesFail p names (k ∷ ks) f =
    (with_fields p names (k ∷ []) ≡ Err f) ⊎ FieldNamesFail p (names ++ name_at p k ∷ []) ks f

abbrev pub Layer : Type 0
Layer = TypeForm-F TypeForm NameList TypeExpr

abbrev pub layer : TypeExpr → Layer
layer t = out-TypeForm (out-TypeExpr t).form

abbrev pub TypeFails : Place → Layer → Fault → Type 0
TypeFails p (TypeForm-F.Name k) f = NameFails p k (named_type k) f
TypeFails p (TypeForm-F.Array count item) f = InLength p count f
TypeFails p (TypeForm-F.Record lists) f = ⊥

-- the place of an array's elements; a broken length takes no part in it
abbrev pub in_array : Place → Expr → Place
in_array p count = with_length p (value_or 0 (array_length p count))

-- The fields so far, behind one more list. Where that is broken, its names still stand in the
-- record.
abbrev pub behind_list : Fields → NameList → Fields
behind_list so_far list =
    let names = so_far.names ++ map (name_at so_far.place) (out-NameList list).names in
    value_or (record so_far { names = names }) (fields_of list so_far)

mutual
  pub data InType : Place → TypeExpr → Fault → Type 0 where
    itself : (p : Place) (t : TypeExpr) (f : Fault) → TypeFails p (layer t) f → InType p t f
    element : (p : Place) (t : TypeExpr) (f : Fault) (count : Expr) (item : TypeExpr) →
        layer t ≡ TypeForm-F.Array count item → InType (in_array p count) item f → InType p t f
    fields : (p : Place) (t : TypeExpr) (f : Fault) (lists : List NameList) →
        layer t ≡ TypeForm-F.Record lists →
        InFields (record { place = p; names = []; types = [] }) lists f → InType p t f

  pub data InFields : Fields → List NameList → Fault → Type 0 where
    names : (so_far : Fields) (l : NameList) (ls : List NameList) (f : Fault) →
        FieldNamesFail so_far.place so_far.names (out-NameList l).names f →
        InFields so_far (l ∷ ls) f
    shape : (so_far : Fields) (l : NameList) (ls : List NameList) (f : Fault) →
        InType so_far.place (out-NameList l).shape f → InFields so_far (l ∷ ls) f
    more : (so_far : Fields) (l : NameList) (ls : List NameList) (f : Fault) →
        InFields (behind_list so_far l) ls f → InFields so_far (l ∷ ls) f
