-- Expressions that never trap.
use Rattle.std.proofs.Common.{◌≡◌, ℕ, ◌+◌, ◌<◌, ◌≤◌, Bool, true, false, List, [], ◌∷◌, length}
use Rattle.std.proofs.Common.{get_or, drop, map, Ok, refl, sym, ap, ◌∙◌, subst}
use Rattle.std.proofs.lemmas.List.{drop_all}
use Rattle.std.specs.Prelude.{ℤ, if◌then◌else◌}
use Rattle.pra_list.specs.Results.{◌>>=◌}
use Rattle.ob_syntax.specs.Operators.{Outcome, is_true, negated, inverted, combined}
use Rattle.ob_syntax.specs.declared.checked.ROp.{ROp}
use Rattle.ob_syntax.specs.declared.checked.ROp.TheVariants.{Mul, Div, Mod, Both, Add, Sub, Either}
use Rattle.ob_syntax.specs.declared.checked.ROp.TheVariants.{Equal, Unequal, Less, LessEqual}
use Rattle.ob_syntax.specs.declared.checked.ROp.TheVariants.{Greater, GreaterEqual}
use Rattle.ob_syntax.specs.declared.checked.RExpr.{RExpr}
use Rattle.ob_syntax.specs.declared.checked.RExpr.TheVariants as x
use Rattle.ob_syntax.specs.declared.checked.RStep.{RStep}
use Rattle.ob_syntax.specs.declared.checked.RStep.TheVariants as step
use Rattle.ob_syntax.specs.declared.checked.RVar.{RVar}
use Rattle.ob_syntax.specs.declared.checked.Value.{Value}
use Rattle.ob_syntax.specs.declared.checked.Value.TheVariants.{Number, Truth}
use Rattle.ob_mean.specs.Designators.{shape_of, field_type, root_type, root_location, running}
use Rattle.ob_mean.specs.Designators.{Located, selected}
use Rattle.ob_mean.specs.Expressions.{Designation, at_store, value, selector, designation, location}
use Rattle.ob_mean.specs.Store.{read, part}
use Rattle.ob_mean.proofs.Equations.{value-Number, value-Truth, value-Var, value-Negate, value-Not}
use Rattle.ob_mean.proofs.Equations.{value-Binary, selector-Field, designation-is}
use Rattle.vc_expr.specs.Division.{is_division}
use Rattle.vc_select.specs.Selects.{IsSafe, AreFields}
use Rattle.vc_select.proofs.Arms.{next_item}

pub fields_none : AreFields []
fields_none program calls store shapes type_id l = (l, refl)

pub fields_more : (k : ℕ) (s : RStep) (rest : List RStep) → s ≡ step.Field k → AreFields rest →
    AreFields (s ∷ rest)
fields_more k s rest is f program calls store shapes type_id l =
    let m = f program calls store shapes (field_type (shape_of shapes type_id) k) (part l k) in (
      m.0,
      ap (λ z. selected shapes type_id l
          (z ∷ at_store calls store (map (selector program) rest)))
          (ap (λ z. selector program z calls store) is ∙ selector-Field program k calls store)
          ∙ m.1,
    )

pub safe_number : (n : ℤ) (e : RExpr) → e ≡ x.Number n → IsSafe e
safe_number n e is program calls store =
    (Number n, ap (λ z. value program z calls store) is ∙ value-Number program n calls store)

pub safe_truth : (b : Bool) (e : RExpr) → e ≡ x.Truth b → IsSafe e
safe_truth b e is program calls store =
    (Truth b, ap (λ z. value program z calls store) is ∙ value-Truth program b calls store)

pub safe_variable : (v : RVar) (e : RExpr) → e ≡ x.Var v → AreFields v.steps → IsSafe e
safe_variable v e is f program calls store =
    let m = f program calls store program.types (root_type program (running calls) v.root)
    (root_location calls v.root) in
    let at : location program v calls store ≡ Ok m.0 =
    ap (λ (d : Designation). d.location calls store) (designation-is program v) ∙ m.1 in (
      read store (designation program v).start m.0,
      ap (λ z. value program z calls store) is ∙ value-Var program v calls store
          ∙ ap (λ (r : Located). r >>= λ l. Ok (read store (designation program v).start l)) at,
    )

pub safe_negate : (a e : RExpr) → e ≡ x.Negate a → IsSafe a → IsSafe e
safe_negate a e is f program calls store =
    let y = f program calls store in (
      negated y.0,
      ap (λ z. value program z calls store) is ∙ value-Negate program a calls store
          ∙ ap (λ (r : Outcome). r >>= λ v. Ok (negated v)) y.1,
    )

pub safe_not : (a e : RExpr) → e ≡ x.Not a → IsSafe a → IsSafe e
safe_not a e is f program calls store =
    let y = f program calls store in (
      inverted y.0,
      ap (λ z. value program z calls store) is ∙ value-Not program a calls store
          ∙ ap (λ (r : Outcome). r >>= λ v. Ok (inverted v)) y.1,
    )

-- a value of a choice
chosen_value : (b : Bool) (one other : Value) → (z : Value) ×
    (◌≡◌ {A = Outcome} (if b then Ok one else Ok other) (Ok z))
chosen_value true one other = (one, refl)
chosen_value false one other = (other, refl)

always : (op : ROp) → is_division op ≡ false → (p q : Value) → (z : Value) ×
    (combined op (Ok p) (Ok q) ≡ Ok z)
always Both e p q = chosen_value (is_true p) q (Truth false)
always Either e p q = chosen_value (is_true p) (Truth true) q
always Mul e p q = (_, refl)
always Add e p q = (_, refl)
always Sub e p q = (_, refl)
always Equal e p q = (_, refl)
always Unequal e p q = (_, refl)
always Less e p q = (_, refl)
always LessEqual e p q = (_, refl)
always Greater e p q = (_, refl)
always GreaterEqual e p q = (_, refl)
always Div e p q = absurd (cc)
always Mod e p q = absurd (cc)

pub safe_binary : (op : ROp) (a b e : RExpr) → e ≡ x.Binary op a b → is_division op ≡ false →
    IsSafe a → IsSafe b → IsSafe e
safe_binary op a b e is whole f h program calls store =
    let p = f program calls store in
    let q = h program calls store in
    let z = always op whole p.0 q.0 in (
      z.0,
      ap (λ k. value program k calls store) is ∙ value-Binary program op a b calls store
          ∙ ap (λ r. combined op r (value program b calls store)) p.1
          ∙ ap (λ r. combined op (Ok p.0) r) q.1 ∙ z.1,
    )

-- selectors one after the other
pub fields_step : (all : List RStep) (i : ℕ) (s : RStep) (k : ℕ) → i < length all →
    s ≡ get_or all i s → s ≡ step.Field k → AreFields (drop (i + 1) all) → AreFields (drop i all)
fields_step all i s k lt is field f = subst AreFields (sym (next_item all i s lt is))
    (fields_more k s (drop (i + 1) all) field f)

pub fields_done : (all : List RStep) (i : ℕ) → length all ≤ i → AreFields (drop i all)
fields_done all i past = subst AreFields (sym (drop_all i all past)) fields_none
