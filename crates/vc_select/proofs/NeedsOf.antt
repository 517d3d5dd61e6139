-- The blocks of each form of tree, as equations.
use Rattle.std.proofs.Common.{◌≡◌, ℕ, ◌+◌, ◌<◌, ◌≤◌, ℤ, Bool, true, false, List, length, map, drop}
use Rattle.std.proofs.Common.{get_or, refl, sym, ap, ◌∙◌}
use Rattle.std.specs.Prelude.{◌&&◌, not, if◌then◌else◌}
use Rattle.std.proofs.lemmas.List.{drop_all}
use Rattle.ob_syntax.specs.declared.checked.ROp.{ROp}
use Rattle.ob_syntax.specs.declared.checked.RExpr.{RExpr, RExpr-F, roll-RExpr, out-RExpr}
use Rattle.ob_syntax.specs.declared.checked.RExpr.{roll-out-RExpr, map-RExpr, fold-roll-RExpr}
use Rattle.ob_syntax.specs.declared.checked.RExpr.{fold_out-RExpr}
use Rattle.ob_syntax.specs.declared.checked.RExpr.TheVariants as x
use Rattle.ob_syntax.specs.declared.checked.RStep.{RStep, RStep-F, roll-RStep, map-RStep}
use Rattle.ob_syntax.specs.declared.checked.RStep.{fold-roll-RStep}
use Rattle.ob_syntax.specs.declared.checked.RStep.TheVariants as step
use Rattle.ob_syntax.specs.declared.checked.RVar.{RVar, fold_out-RVar}
use Rattle.vc_expr.specs.Division.{is_division}
use Rattle.vc_expr.specs.Operators.{is_bitwise}
use Rattle.vc_select.specs.Blocks.{Needs, PathNeeds, alike, has_both, binary_needs, expr_needs}
use Rattle.vc_select.specs.Blocks.{step_needs, all_safe, var_needs, needs, needs_of_step}
use Rattle.vc_select.specs.Blocks.{needs_of_var, blocks_of_steps}
use Rattle.vc_select.proofs.Arms.{next_item}

expr_roll : (e : RExpr-F RExpr RStep RVar) → needs (roll-RExpr e) ≡
    expr_needs (map-RExpr RExpr RStep RVar Needs PathNeeds PathNeeds needs needs_of_step
    needs_of_var e)
expr_roll = fold-roll-RExpr Needs PathNeeds PathNeeds expr_needs step_needs var_needs

pub needs-Number : (n : ℤ) (e : RExpr) → e ≡ x.Number n → needs e ≡ alike 0 true
needs-Number n e is = ap needs (is ∙ sym (x.rolls-Number n)) ∙ expr_roll (RExpr-F.Number n)

pub needs-Truth : (b : Bool) (e : RExpr) → e ≡ x.Truth b → needs e ≡ alike 0 true
needs-Truth b e is = ap needs (is ∙ sym (x.rolls-Truth b)) ∙ expr_roll (RExpr-F.Truth b)

pub needs-Var : (v : RVar) (e : RExpr) → e ≡ x.Var v → needs e ≡ alike (needs_of_var v).blocks
    (needs_of_var v).safe
needs-Var v e is = ap needs (is ∙ sym (x.rolls-Var v)) ∙ expr_roll (RExpr-F.Var v)

pub needs-Negate : (a e : RExpr) → e ≡ x.Negate a → needs e ≡ alike (needs a).value (needs a).safe
needs-Negate a e is = ap needs (is ∙ sym (x.rolls-Negate a)) ∙ expr_roll (RExpr-F.Negate a)

pub needs-Not : (a e : RExpr) → e ≡ x.Not a → needs e ≡ needs a
needs-Not a e is = ap needs (is ∙ sym (x.rolls-Not a)) ∙ expr_roll (RExpr-F.Not a)

pub needs-Binary : (op : ROp) (a b e : RExpr) → e ≡ x.Binary op a b → needs e ≡
    binary_needs op (needs a) (needs b)
needs-Binary op a b e is = ap needs (is ∙ sym (x.rolls-Binary op a b))
    ∙ expr_roll (RExpr-F.Binary op a b)

step_roll : (e : RStep-F RExpr RStep RVar) → needs_of_step (roll-RStep e) ≡
    step_needs (map-RStep RExpr RStep RVar Needs PathNeeds PathNeeds needs needs_of_step
    needs_of_var e)
step_roll = fold-roll-RStep Needs PathNeeds PathNeeds expr_needs step_needs var_needs

pub needs-Field : (k : ℕ) (s : RStep) → s ≡ step.Field k → needs_of_step s ≡
    (record { blocks = 0; safe = true })
needs-Field k s is = ap needs_of_step (is ∙ sym (step.rolls-Field k)) ∙ step_roll (RStep-F.Field k)

pub needs-Index : (a : RExpr) (s : RStep) → s ≡ step.Index a → needs_of_step s ≡
    (record { blocks = (needs a).value; safe = false })
needs-Index a s is = ap needs_of_step (is ∙ sym (step.rolls-Index a)) ∙ step_roll (RStep-F.Index a)

pub needs_of_var-is : (v : RVar) → needs_of_var v ≡
    (record { blocks = blocks_of_steps v.steps; safe = all_safe (map needs_of_step v.steps) })
needs_of_var-is v = fold_out-RVar Needs PathNeeds PathNeeds expr_needs step_needs var_needs v

-- ---- the blocks

pub value_both : (op : ROp) (a b e : RExpr) → e ≡ x.Binary op a b → has_both op (needs b).safe ≡
    true → (needs e).value ≡ (needs a).value + (needs b).value
value_both op a b e is both =
    ap (λ (z : Needs). z.value) (needs-Binary op a b e is)
    ∙ ap (λ z. if z then (needs a).value + (needs b).value else (needs a).test +
    (1 + ((needs b).value + 1))) both

pub value_choice : (op : ROp) (a b e : RExpr) → e ≡ x.Binary op a b → has_both op (needs b).safe ≡
    false → (needs e).value ≡ (needs a).test + (1 + ((needs b).value + 1))
value_choice op a b e is both =
    ap (λ (z : Needs). z.value) (needs-Binary op a b e is)
    ∙ ap (λ z. if z then (needs a).value + (needs b).value else (needs a).test +
    (1 + ((needs b).value + 1))) both

pub test_split : (op : ROp) (a b e : RExpr) → e ≡ x.Binary op a b → is_bitwise op ≡ true →
    (needs e).test ≡ (needs a).test + (1 + (needs b).test)
test_split op a b e is bits =
    ap (λ (z : Needs). z.test) (needs-Binary op a b e is)
    ∙ ap (λ z. if z then (needs a).test + (1 + (needs b).test) else (needs a).value +
    (needs b).value) bits

pub test_both : (op : ROp) (a b e : RExpr) → e ≡ x.Binary op a b → is_bitwise op ≡ false →
    (needs e).test ≡ (needs a).value + (needs b).value
test_both op a b e is bits =
    ap (λ (z : Needs). z.test) (needs-Binary op a b e is)
    ∙ ap (λ z. if z then (needs a).test + (1 + (needs b).test) else (needs a).value +
    (needs b).value) bits

-- neither `~` nor an operator of two sides
test_same : (y : RExpr-F RExpr RStep RVar) → ((a : RExpr) → y ≡ RExpr-F.Not a → ⊥) →
    ((op : ROp) (a b : RExpr) → y ≡ RExpr-F.Binary op a b → ⊥) →
    (expr_needs (map-RExpr RExpr RStep RVar Needs PathNeeds PathNeeds needs needs_of_step
    needs_of_var y)).test ≡ (expr_needs
    (map-RExpr RExpr RStep RVar Needs PathNeeds PathNeeds needs needs_of_step needs_of_var
    y)).value
test_same (RExpr-F.Number n) p q = refl
test_same (RExpr-F.Truth b) p q = refl
test_same (RExpr-F.Var v) p q = refl
test_same (RExpr-F.Negate a) p q = refl
test_same (RExpr-F.Not a) p q = absurd (p a refl)
test_same (RExpr-F.Binary op a b) p q = absurd (q op a b refl)

pub test_value : (e : RExpr) → ((a : RExpr) → e ≡ x.Not a → ⊥) →
    ((op : ROp) (a b : RExpr) → e ≡ x.Binary op a b → ⊥) → (needs e).test ≡ (needs e).value
test_value e p q =
    let is : needs e ≡ expr_needs
    (map-RExpr RExpr RStep RVar Needs PathNeeds PathNeeds needs needs_of_step needs_of_var
    (out-RExpr e)) = fold_out-RExpr Needs PathNeeds PathNeeds expr_needs step_needs var_needs
    e in
    let same = test_same (out-RExpr e)
    (λ a out. p a (sym (roll-out-RExpr e) ∙ ap roll-RExpr out ∙ x.rolls-Not a))
    (λ op a b out. q op a b (sym (roll-out-RExpr e) ∙ ap roll-RExpr out ∙ x.rolls-Binary op a b)) in
    ap (λ (z : Needs). z.test) is ∙ same ∙ sym (ap (λ (z : Needs). z.value) is)

-- ---- selectors one after the other

pub steps_next : (all : List RStep) (i : ℕ) (s : RStep) → i < length all → s ≡ get_or all i s →
    blocks_of_steps (drop i all) ≡ (needs_of_step s).blocks + blocks_of_steps (drop (i + 1) all)
steps_next all i s lt is = ap blocks_of_steps (next_item all i s lt is)

pub steps_done : (all : List RStep) (i : ℕ) → length all ≤ i → blocks_of_steps (drop i all) ≡ 0
steps_done all i past = ap blocks_of_steps (drop_all i all past)

-- ---- what never traps

module _ (op : ROp) (a b e : RExpr) (is : e ≡ x.Binary op a b) where
  whole : (needs e).safe ≡ (not (is_division op) && ((needs a).safe && (needs b).safe))
  whole = ap (λ (z : Needs). z.safe) (needs-Binary op a b e is)

  pub safe_division : is_division op ≡ true → (needs e).safe ≡ false
  safe_division d = whole ∙ ap (λ z. not z && ((needs a).safe && (needs b).safe)) d

  pub safe_left : is_division op ≡ false → (needs a).safe ≡ false → (needs e).safe ≡ false
  safe_left d f = whole ∙ ap (λ z. not z && ((needs a).safe && (needs b).safe)) d
      ∙ ap (λ z. z && (needs b).safe) f

  pub safe_right : is_division op ≡ false → (needs a).safe ≡ true → (needs e).safe ≡ (needs b).safe
  safe_right d f = whole ∙ ap (λ z. not z && ((needs a).safe && (needs b).safe)) d
      ∙ ap (λ z. z && (needs b).safe) f

pub safe_next : (all : List RStep) (i k : ℕ) (s : RStep) → i < length all → s ≡ get_or all i s →
    s ≡ step.Field k → all_safe (map needs_of_step (drop i all)) ≡
    all_safe (map needs_of_step (drop (i + 1) all))
safe_next all i k s lt is field =
    ap (λ l. all_safe (map needs_of_step l)) (next_item all i s lt is)
    ∙ ap (λ (z : PathNeeds). z.safe && all_safe (map needs_of_step (drop (i + 1) all)))
    (needs-Field k s field)

pub safe_index : (all : List RStep) (i : ℕ) (a : RExpr) (s : RStep) → i < length all →
    s ≡ get_or all i s → s ≡ step.Index a → all_safe (map needs_of_step (drop i all)) ≡ false
safe_index all i a s lt is index =
    ap (λ l. all_safe (map needs_of_step l)) (next_item all i s lt is)
    ∙ ap (λ (z : PathNeeds). z.safe && all_safe (map needs_of_step (drop (i + 1) all)))
    (needs-Index a s index)

pub safe_done : (all : List RStep) (i : ℕ) → length all ≤ i →
    all_safe (map needs_of_step (drop i all)) ≡ true
safe_done all i past = ap (λ l. all_safe (map needs_of_step l)) (drop_all i all past)
