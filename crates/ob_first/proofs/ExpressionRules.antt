-- Expressions, production by production.
use Rattle.std.proofs.Common.{◌≡◌, ℕ, ℤ, ◌+◌, ◌<◌, ◌≤◌, ◌⊎◌, inl, inr, List, map, Option, Some}
use Rattle.std.proofs.Common.{None, refl, ap, sym, subst, ◌∙◌, arith}
use Rattle.std.specs.Prelude.{Ok, Err}
use Rattle.pra_list.proofs.Options.{not_both}
use Rattle.ob_syntax.specs.declared.token.Kind.{Kind}
use Rattle.ob_syntax.specs.declared.token.Kind.TheVariants as kind
use Rattle.ob_syntax.specs.declared.checked.ROp.{ROp}
use Rattle.ob_syntax.specs.declared.checked.ROp.TheVariants as op
use Rattle.ob_syntax.specs.declared.checked.RExpr.{RExpr}
use Rattle.ob_syntax.specs.declared.checked.RExpr.TheVariants as x
use Rattle.ob_syntax.specs.declared.checked.Typed.{Typed}
use Rattle.ob_syntax.specs.declared.tree.Designator.{Designator, out-Designator, roll-Designator}
use Rattle.ob_syntax.specs.declared.tree.Designator.{out-roll-Designator, fold-roll-Designator}
use Rattle.ob_syntax.specs.declared.tree.Expr.{Expr, out-Expr, roll-Expr, out-roll-Expr}
use Rattle.ob_syntax.specs.declared.tree.Expr.{fold-roll-Expr}
use Rattle.ob_syntax.specs.declared.tree.Factor.{Factor, out-Factor, roll-Factor, out-roll-Factor}
use Rattle.ob_syntax.specs.declared.tree.Factor.{fold-roll-Factor}
use Rattle.ob_syntax.specs.declared.tree.FactorForm.{FactorForm, FactorForm-F, out-FactorForm}
use Rattle.ob_syntax.specs.declared.tree.FactorForm.{out-roll-FactorForm, fold-FactorForm}
use Rattle.ob_syntax.specs.declared.tree.FactorForm.{roll-FactorForm, fold-roll-FactorForm}
use Rattle.ob_syntax.specs.declared.tree.FactorForm.TheVariants as factor_is
use Rattle.ob_syntax.specs.declared.tree.NextFactor.{NextFactor, out-NextFactor, roll-NextFactor}
use Rattle.ob_syntax.specs.declared.tree.NextFactor.{out-roll-NextFactor, fold-roll-NextFactor}
use Rattle.ob_syntax.specs.declared.tree.NextTerm.{NextTerm, out-NextTerm, roll-NextTerm}
use Rattle.ob_syntax.specs.declared.tree.NextTerm.{out-roll-NextTerm, fold-roll-NextTerm}
use Rattle.ob_syntax.specs.declared.tree.Relation.{Relation, out-Relation, roll-Relation}
use Rattle.ob_syntax.specs.declared.tree.Relation.{out-roll-Relation, fold-roll-Relation}
use Rattle.ob_syntax.specs.declared.tree.Selector.{Selector, roll-Selector, out-roll-Selector}
use Rattle.ob_syntax.specs.declared.tree.Selector.{fold-roll-Selector}
use Rattle.ob_syntax.specs.declared.tree.SelectorForm.{SelectorForm, SelectorForm-F}
use Rattle.ob_syntax.specs.declared.tree.SelectorForm.{out-SelectorForm, out-roll-SelectorForm}
use Rattle.ob_syntax.specs.declared.tree.SelectorForm.{fold-SelectorForm, fold-roll-SelectorForm}
use Rattle.ob_syntax.specs.declared.tree.SelectorForm.TheVariants as selector_is
use Rattle.ob_syntax.specs.declared.tree.SimpleExpr.{SimpleExpr, out-SimpleExpr, roll-SimpleExpr}
use Rattle.ob_syntax.specs.declared.tree.SimpleExpr.{out-roll-SimpleExpr, fold-roll-SimpleExpr}
use Rattle.ob_syntax.specs.declared.tree.Span.{Span}
use Rattle.ob_syntax.specs.declared.tree.Term.{Term, out-Term, roll-Term, out-roll-Term}
use Rattle.ob_syntax.specs.declared.tree.Term.{fold-roll-Term}
use Rattle.ob_syntax.specs.Expressions.{Phrase, Next, Selected, Selection, FactorResult}
use Rattle.ob_syntax.specs.Expressions.{SelectorResult, factor_form, selector_form, designator}
use Rattle.ob_syntax.specs.Expressions.{expr, factor, next_factor, next_term, relation, selector}
use Rattle.ob_syntax.specs.Expressions.{simple_expr, term, integer, boolean, of_type, operand}
use Rattle.ob_syntax.specs.Expressions.{binary, are_alike, compared_alike, related, chained}
use Rattle.ob_syntax.specs.Expressions.{signed_term, designated, typed, expression}
use Rattle.ob_syntax.specs.Expressions.{simple_expression, whole_term, whole_factor, following_term}
use Rattle.ob_syntax.specs.Expressions.{following_factor, comparison, one_selector}
use Rattle.ob_syntax.specs.Names.{Fault, Judged, Place, used}
use Rattle.ob_first.specs.Faults.{Fails, BothFail, AnyOf, NameFails}
use Rattle.ob_first.specs.InExpressions as which
use Rattle.ob_first.specs.InExpressions.{OperandFails, ChainFails, RelationFails, signed, bare}
use Rattle.ob_first.specs.InExpressions.{SelectorsFail, InExpression, InSimple, InTerm, InFactor}
use Rattle.ob_first.specs.InExpressions.{InSelector}
use Rattle.ob_first.proofs.Leads.{told, Leads, InOrder, alike, wide, tested, both_tested, joined}
use Rattle.ob_first.proofs.Leads.{told_joined, nothing, one_some, retold}
use Rattle.ob_first.proofs.Chains.{Stands, of_type_at, operand_at, in_two, told_unit, chain}
use Rattle.ob_first.proofs.Selections.{SelectorAt, ordered, regrouped, field_selector}
use Rattle.ob_first.proofs.Selections.{index_selector, designated_leads}
use Rattle.pra_list.proofs.Choices.{by_test}
use Rattle.pra_list.specs.Results.{◌>>=◌}

-- a phrase that is read as another
reads_as : (i j : ℕ) (d e : Phrase) (B : Place → Fault → Type 0) → d ≡ e → Stands i j e B →
    Stands i j d B
reads_as i j d e B is h = subst (λ x. Stands i j x B) (sym is) h

-- ---- comparisons

compared_at : (o : ROp) (token : ℕ) (l r : Typed) (f : Fault) → compared_alike o token l r ≡ Err f →
    f.1 ≡ token
compared_at o token l r f h = by_test (are_alike l.type_id r.type_id) (Ok (binary o l.expr r.expr))
    (Err (17, token)) (Err f) (λ t is. cc) (λ t is. cc) h

module _ (p : Place) (left right : Phrase) (L R : Fault → Type 0) (i k l j : ℕ)
    (front : Leads i k (told (left.judge p)) L) (back : Leads l j (told (right.judge p)) R)
    (some : i < k) (low : k ≤ l) (rest : l < j) (left_ends : left.last + 1 ≡ k)
    (right_ends : right.last + 1 ≡ j) where
  behind : Leads k j (told (right.judge p)) R
  behind = wide low (omega arith) back

  alike_sides : (o : ROp) →
      Leads i j (told (left.judge p >>= λ a. right.judge p >>= λ b. compared_alike o right.last a
      b))
      (λ f. L f ⊎ (R f ⊎ BothFail (left.judge p) (right.judge p) (compared_alike o right.last) f))
  alike_sides o = both_tested (left.judge p) (right.judge p) (compared_alike o right.last)
      front behind (omega arith) (omega arith)
      (λ a b f h. let there = compared_at o right.last a b f h in
      (omega (arith, there), omega (arith, there)))

  ordered_sides : (o : ROp) →
      Leads i j (told (left.judge p >>= λ a. operand o left.last a >>= λ x. right.judge p >>= λ b.
      operand o right.last b >>= λ y. Ok (binary o x y)))
      (λ f. L f ⊎ (R f ⊎ (OperandFails p o left f ⊎ OperandFails p o right f)))
  ordered_sides o =
      alike (joined (left.judge p >>= operand o left.last) (right.judge p >>= operand o right.last)
      (binary o) (tested (left.judge p) (operand o left.last) front (λ x f h. let there = operand_at
      o left.last x f h in (omega (arith, there), omega (arith, there)))) (tested (right.judge p)
      (operand o right.last) behind (λ x f h. let there = operand_at o right.last x f h in
      (omega (arith, there), omega (arith, there)))) (omega arith) (omega arith)) (ap told
      (in_two (left.judge p) (operand o left.last) (right.judge p) (operand o right.last)
      (binary o)))
      (λ f. elim [
        | inl (inl b) ↦ inl b
        | inl (inr b) ↦ inr (inr (inl b))
        | inr (inl b) ↦
            inr (inl b)
        | inr (inr b) ↦ inr (inr (inr b))
      ])
      (λ f. elim [
        | inl b ↦ inl (inl b)
        | inr (inl b) ↦ inr (inl b)
        | inr (inr (inl b)) ↦
            inl (inr b)
        | inr (inr (inr b)) ↦ inr (inr b)
      ])

  sides : (o : ROp) → Leads i j (told (left.judge p >>= λ a. related p left.last a (o, right)))
      (λ f. L f ⊎ (R f ⊎ RelationFails p left (o, right) f))
  sides op.Equal = alike_sides op.Equal
  sides op.Unequal = alike_sides op.Unequal
  sides op.Mul = ordered_sides op.Mul
  sides op.Div = ordered_sides op.Div
  sides op.Mod = ordered_sides op.Mod
  sides op.Both = ordered_sides op.Both
  sides op.Add = ordered_sides op.Add
  sides op.Sub = ordered_sides op.Sub
  sides op.Either = ordered_sides op.Either
  sides op.Less = ordered_sides op.Less
  sides op.LessEqual = ordered_sides op.LessEqual
  sides op.Greater = ordered_sides op.Greater
  sides op.GreaterEqual = ordered_sides op.GreaterEqual

-- ---- expressions

abbrev pub ComparisonAt : Option Relation → ℕ → ℕ → Type 0
ComparisonAt None k j = k ≡ j
ComparisonAt (Some n) k j = (l : ℕ) × (k ≤ l) × Stands l j (comparison n).1
    (λ p f. InSimple p (out-Relation n).right f)

pub expression_stands : (s : Span) (l : SimpleExpr) (r : Option Relation) (i k j : ℕ) → s.last + 1 ≡
    j → Stands i k (simple_expression l) (λ p f. InSimple p l f) → ComparisonAt r k j
    → Stands i j (expression (roll-Expr (record { span = s; left = l; relation = r })))
    (λ p f. InExpression p (roll-Expr (record { span = s; left = l; relation = r })) f)
expression_stands s l None i k j ends left same =
    reads_as i j _ (record {
      last = s.last;
      judge = λ p. (simple_expression l).judge p >>= λ a. Ok a;
    }) _ (fold-roll-Expr _ _ _ _ _ _ _ _ _ _ _ _ _ _ _ _ _ _ _ _ _ _ _)
    (record {
      some = let some = left.some in omega arith;
      last = ends;
      leads = λ p. alike (wide (omega arith) (omega arith) (left.leads p))
          (sym (told_unit ((simple_expression l).judge p))) (λ f b. which.left e f (rw is b))
          (inside p);
    })
  where
    e : Expr
    e = roll-Expr (record { span = s; left = l; relation = None })

    is : (out-Expr e).left ≡ l
    is = ap (λ x. x.left) (out-roll-Expr _)

    none : (out-Expr e).relation ≡ None
    none = ap (λ x. x.relation) (out-roll-Expr _)

    none_there : (n : Relation) → (out-Expr e).relation ≡ Some n → ⊥
    none_there n there = not_both (out-Expr e).relation n none there

    inside : (p : Place) (f : Fault) → InExpression p e f → InSimple p l f
    inside p f (which.left _ _ b) = subst (λ x. InSimple p x f) is b
    inside p f (which.right _ _ n there b) = absurd (none_there n there)
    inside p f (which.related _ _ n there b) = absurd (none_there n there)
expression_stands s l (Some n) i k j ends left (m, low, right) =
    reads_as i j _ (record {
      last = s.last;
      judge = λ p. (simple_expression l).judge p >>= λ a.
          related p (simple_expression l).last a (comparison n);
    }) _ (fold-roll-Expr _ _ _ _ _ _ _ _ _ _ _ _ _ _ _ _ _ _ _ _ _ _ _)
    (record {
      some = let some = left.some in let rest = right.some in omega arith;
      last = ends;
      leads = λ p. alike (sides p (simple_expression l) (comparison n).1 (InSimple p l)
          (λ f. InSimple p (out-Relation n).right f) i k m j (left.leads p) (right.leads p)
          left.some low right.some left.last right.last (comparison n).0) refl
          (λ f. elim [
            | inl b ↦ which.left e f (rw is b)
            | inr (inl b) ↦
                which.right e f n there b
            | inr (inr b) ↦
                which.related e f n there
                (subst (λ x. RelationFails p (simple_expression x) (comparison n) f) (sym is) b)
          ]) (inside p);
    })
  where
    e : Expr
    e = roll-Expr (record { span = s; left = l; relation = Some n })

    is : (out-Expr e).left ≡ l
    is = ap (λ x. x.left) (out-roll-Expr _)

    there : (out-Expr e).relation ≡ Some n
    there = ap (λ x. x.relation) (out-roll-Expr _)

    same : (n' : Relation) → (out-Expr e).relation ≡ Some n' → n' ≡ n
    same n' there' = one_some (out-Expr e).relation n' n there' there

    inside : (p : Place) (f : Fault) → InExpression p e f → InSimple p l f ⊎
        (InSimple p (out-Relation n).right f ⊎ RelationFails p (simple_expression l) (comparison n)
        f)
    inside p f (which.left _ _ b) = inl (subst (λ x. InSimple p x f) is b)
    inside p f (which.right _ _ n' there' b) =
        inr (inl (subst (λ x. InSimple p (out-Relation x).right f) (same n' there') b))
    inside p f (which.related _ _ n' there' b) =
        inr (inr (subst (λ x. RelationFails p (simple_expression l) (comparison x) f)
        (same n' there') (subst (λ x. RelationFails p (simple_expression x) (comparison n') f)
        is b)))

-- ---- operators with what stands behind them

pub relation_stands : (o : Kind) (e : SimpleExpr) (i j : ℕ) → Stands i j (simple_expression e)
    (λ p f. InSimple p e f)
    → Stands i j (comparison (roll-Relation (record { op = o; right = e }))).1
    (λ p f. InSimple p (out-Relation (roll-Relation (record { op = o; right = e }))).right f)
relation_stands o e i j h =
    rw (out-roll-Relation) (reads_as i j _ (simple_expression e) (λ p f. InSimple p e f)
    (ap (λ (n : Next). n.1) (fold-roll-Relation _ _ _ _ _ _ _ _ _ _ _ _ _ _ _ _ _ _ _ _ _ _ _)) h)

abbrev pub NextTermAt : NextTerm → ℕ → ℕ → Type 0
NextTermAt n i j = Stands i j (following_term n).1 (λ p f. InTerm p (out-NextTerm n).term f)

pub next_term_stands : (o : Kind) (t : Term) (i j : ℕ) →
    Stands i j (whole_term t) (λ p f. InTerm p t f) →
    NextTermAt (roll-NextTerm (record { op = o; term = t })) i j
next_term_stands o t i j h =
    rw (out-roll-NextTerm) (reads_as i j _ (whole_term t) (λ p f. InTerm p t f)
    (ap (λ (n : Next). n.1) (fold-roll-NextTerm _ _ _ _ _ _ _ _ _ _ _ _ _ _ _ _ _ _ _ _ _ _ _)) h)

abbrev pub NextFactorAt : NextFactor → ℕ → ℕ → Type 0
NextFactorAt n i j = Stands i j (following_factor n).1
    (λ p f. InFactor p (out-NextFactor n).factor f)

pub next_factor_stands : (o : Kind) (x : Factor) (i j : ℕ) → Stands i j (whole_factor x)
    (λ p f. InFactor p x f) → NextFactorAt (roll-NextFactor (record { op = o; factor = x })) i j
next_factor_stands o x i j h =
    let n = roll-NextFactor (record { op = o; factor = x }) in
    subst (λ (y : Factor). Stands i j (following_factor n).1 (λ p f. InFactor p y f))
    (sym (ap (λ y. y.factor) (out-roll-NextFactor (record { op = o; factor = x }))))
    (reads_as i j _ (whole_factor x) (λ p f. InFactor p x f)
    (ap (λ (n : Next). n.1) (fold-roll-NextFactor _ _ _ _ _ _ _ _ _ _ _ _ _ _ _ _ _ _ _ _ _ _ _)) h)

-- ---- sums

pub value_or_err : {A B : Type 0} (a : Judged A) (h : A → B) (f : Fault) → (a >>= λ y. Ok (h y)) ≡
    Err f → a ≡ Err f
value_or_err (Ok y) h f e = absurd (cc)
value_or_err (Err g) h f e = cc

signed_at : (sign : Option Kind) (token : ℕ) (e : Typed) (f : Fault) → signed_term sign token e ≡
    Err f → f.1 ≡ token
signed_at None token e f h = absurd (cc)
signed_at (Some kind.Minus) token e f h = of_type_at 15 integer token e f
    (value_or_err (of_type 15 integer token e) (λ number. typed integer (x.Negate number)) f h)
signed_at (Some k) token e f h = of_type_at 15 integer token e f
    (value_or_err (of_type 15 integer token e) (typed integer) f h)

pub simple_stands : (s : Span) (sign : Option Kind) (t : Term) (ts : List NextTerm) (i l k j : ℕ) →
    s.last + 1 ≡ j → i ≤ l → k ≤ j → Stands l k (whole_term t) (λ p f. InTerm p t f) →
    InOrder NextTermAt k ts j
    → Stands i j (simple_expression
    (roll-SimpleExpr (record { span = s; sign = sign; first = t; rest = ts })))
    (λ p f. InSimple p (roll-SimpleExpr (record { span = s; sign = sign; first = t; rest = ts })) f)
simple_stands s sign t ts i l k j ends low high first order =
    reads_as i j _ (record {
      last = s.last;
      judge = λ p. a p >>= λ x. test x >>= λ y. chained p
          (whole_term t).last y (map following_term ts);
    }) _ (fold-roll-SimpleExpr _ _ _ _ _ _ _ _ _ _ _ _ _ _ _ _ _ _ _ _ _ _ _)
    (record {
      some = let some = first.some in omega arith;
      last = ends;
      leads = λ p. alike (chain p following_term (λ q n f. InTerm q (out-NextTerm n).term f) ts i k
          j (whole_term t).last (a p >>= test) (λ f. InTerm p t f ⊎ Fails (a p) test f) first.last
          (let some = first.some in omega arith) (tested (a p) test
          (wide low (omega arith) (first.leads p)) (λ x f h. let there = signed_at sign
          (whole_term t).last x f h in let some = first.some in let end = first.last in
          (omega (arith, there, some, end), omega (arith, there, end)))) order) (ap told
          (regrouped (a p) test (λ y. chained p (whole_term t).last y (map following_term ts))))
          (outside p) (inside p);
    })
  where
    e : SimpleExpr
    e = roll-SimpleExpr (record { span = s; sign = sign; first = t; rest = ts })

    a : Place → Judged Typed
    a p = (whole_term t).judge p

    test : Typed → Judged Typed
    test = signed_term sign (whole_term t).last

    is : out-SimpleExpr e ≡ record { span = s; sign = sign; first = t; rest = ts }
    is = out-roll-SimpleExpr _

    outside : (p : Place) (f : Fault) → (InTerm p t f ⊎ Fails (a p) test f) ⊎
        (AnyOf (λ n f. InTerm p (out-NextTerm n).term f) ts f ⊎ ChainFails p (whole_term t).last
        (a p >>= test) (map following_term ts) f) → InSimple p e f
    outside p f (inl (inl b)) = which.first_term e f (rw is b)
    outside p f (inl (inr b)) = which.sign e f (rw is b)
    outside p f (inr (inl (n, among, b))) = which.next_term e f n (rw is among) b
    outside p f (inr (inr b)) = which.terms e f (rw is b)

    inside : (p : Place) (f : Fault) → InSimple p e f → (InTerm p t f ⊎ Fails (a p) test f) ⊎
        (AnyOf (λ n f. InTerm p (out-NextTerm n).term f) ts f ⊎ ChainFails p (whole_term t).last
        (a p >>= test) (map following_term ts) f)
    inside p f (which.first_term _ _ b) = inl (inl (rw is at b))
    inside p f (which.sign _ _ b) = inl (inr (rw is at b))
    inside p f (which.next_term _ _ n among b) = inr (inl (n, rw is at among, b))
    inside p f (which.terms _ _ b) = inr (inr (rw is at b))

-- ---- products

pub term_stands : (s : Span) (y : Factor) (ys : List NextFactor) (i k j : ℕ) → s.last + 1 ≡ j →
    k ≤ j → Stands i k (whole_factor y) (λ p f. InFactor p y f) → InOrder NextFactorAt k ys j
    → Stands i j (whole_term (roll-Term (record { span = s; first = y; rest = ys })))
    (λ p f. InTerm p (roll-Term (record { span = s; first = y; rest = ys })) f)
term_stands s y ys i k j ends high first order =
    reads_as i j _ (record {
      last = s.last;
      judge = λ p. a p >>= λ x. chained p
          (whole_factor y).last x (map following_factor ys);
    }) _ (fold-roll-Term _ _ _ _ _ _ _ _ _ _ _ _ _ _ _ _ _ _ _ _ _ _ _)
    (record {
      some = let some = first.some in omega arith;
      last = ends;
      leads = λ p. alike (chain p following_factor (λ q n f. InFactor q (out-NextFactor n).factor f)
          ys i k j (whole_factor y).last (a p) (InFactor p y) first.last first.some
          (first.leads p) order) refl (outside p) (inside p);
    })
  where
    t : Term
    t = roll-Term (record { span = s; first = y; rest = ys })

    a : Place → Judged Typed
    a p = (whole_factor y).judge p

    is : out-Term t ≡ record { span = s; first = y; rest = ys }
    is = out-roll-Term _

    outside : (p : Place) (f : Fault) → InFactor p y f ⊎
        (AnyOf (λ n f. InFactor p (out-NextFactor n).factor f) ys f ⊎
        ChainFails p (whole_factor y).last (a p) (map following_factor ys) f) → InTerm p t f
    outside p f (inl b) = which.first_factor t f (rw is b)
    outside p f (inr (inl (n, among, b))) = which.next_factor t f n (rw is among) b
    outside p f (inr (inr b)) = which.factors t f (rw is b)

    inside : (p : Place) (f : Fault) → InTerm p t f → InFactor p y f ⊎
        (AnyOf (λ n f. InFactor p (out-NextFactor n).factor f) ys f ⊎
        ChainFails p (whole_factor y).last (a p) (map following_factor ys) f)
    inside p f (which.first_factor _ _ b) = inl (rw is at b)
    inside p f (which.next_factor _ _ n among b) = inr (inl (n, rw is at among, b))
    inside p f (which.factors _ _ b) = inr (inr (rw is at b))

-- ---- factors

abbrev form_of : FactorForm → FactorResult
form_of = fold-FactorForm FactorResult SelectorResult Selected Phrase Phrase Next Next Next
    Selection Phrase Phrase factor_form selector_form designator expr factor next_factor next_term
    relation selector simple_expr term

abbrev FormLayer : Type 0
FormLayer = FactorForm-F FactorForm SelectorForm Designator Expr Factor NextFactor NextTerm Relation
    Selector SimpleExpr Term

-- two forms of a factor are the same if they are of one layer
abbrev SameForm : FormLayer → FormLayer → Type 0
SameForm (FactorForm-F.Name d) (FactorForm-F.Name e) = d ≡ e
SameForm (FactorForm-F.Number m) (FactorForm-F.Number n) = m ≡ n
SameForm (FactorForm-F.Paren d) (FactorForm-F.Paren e) = d ≡ e
SameForm (FactorForm-F.Not d) (FactorForm-F.Not e) = d ≡ e
SameForm _ _ = ⊥

itself : (g : FormLayer) → SameForm g g
itself (FactorForm-F.Name d) = refl
itself (FactorForm-F.Number n) = refl
itself (FactorForm-F.Paren e) = refl
itself (FactorForm-F.Not e) = refl

one_form : (x g h : FormLayer) → x ≡ g → x ≡ h → SameForm g h
one_form x g h a b = subst (SameForm g) (sym a ∙ b) (itself g)

lays : (s : Span) (y : FormLayer) (g : FactorForm) → roll-FactorForm y ≡ g →
    out-FactorForm (out-Factor (roll-Factor (record { span = s; form = g }))).form ≡ y
lays s y g rolls = ap (λ z. out-FactorForm z.form)
    (out-roll-Factor (record { span = s; form = g })) ∙ ap out-FactorForm (sym rolls)
    ∙ out-roll-FactorForm y

-- a factor of some form, from what it is read as and what breaks a rule in it
factor_stands : (s : Span) (g : FactorForm) (i j : ℕ) (read : FactorResult)
    (B : Place → Fault → Type 0) → form_of g ≡ read → i < j → s.last + 1 ≡ j →
    ((p : Place) → Leads i j (told (read s.last p)) (B p))
    → ((p : Place) (f : Fault) → B p f → InFactor p (roll-Factor (record { span = s; form = g })) f)
    → ((p : Place) (f : Fault) → InFactor p (roll-Factor (record { span = s; form = g })) f →
    B p f)
    → Stands i j (whole_factor (roll-Factor (record { span = s; form = g })))
    (λ p f. InFactor p (roll-Factor (record { span = s; form = g })) f)
factor_stands s g i j read B is some ends leads outside inside =
    reads_as i j _ (record { last = s.last; judge = read s.last }) _
    (fold-roll-Factor _ _ _ _ _ _ _ _ _ _ _ _ _ _ _ _ _ _ _ _ _ _ _
    ∙ ap (λ (r : FactorResult). factor (record { span = s; form = r })) is)
    (record {
      some = some;
      last = ends;
      leads = λ p. alike (leads p) refl (outside p) (inside p);
    })

pub number_stands : (s : Span) (n : ℤ) (i j : ℕ) → i < j → s.last + 1 ≡ j
    → Stands i j (whole_factor (roll-Factor (record { span = s; form = factor_is.Number n })))
    (λ p f. InFactor p (roll-Factor (record { span = s; form = factor_is.Number n })) f)
number_stands s n i j some ends =
    factor_stands s (factor_is.Number n) i j (λ last p. Ok (typed integer (x.Number n))) (λ p f. ⊥)
    (ap form_of (sym (factor_is.rolls-Number n)) ∙ fold-roll-FactorForm _ _ _ _ _ _ _ _ _ _ _ _ _ _
    _ _ _ _ _ _ _ _ (FactorForm-F.Number n))
    some ends (λ p. nothing) (λ p f b. absurd b) inside
  where
    y : Factor
    y = roll-Factor (record { span = s; form = factor_is.Number n })

    is : out-FactorForm (out-Factor y).form ≡ FactorForm-F.Number n
    is = lays s (FactorForm-F.Number n) _ (factor_is.rolls-Number n)

    inside : (p : Place) (f : Fault) → InFactor p y f → ⊥
    inside p f (which.inside _ _ e there b) = one_form _ _ _ is there
    inside p f (which.negated _ _ z there b) = one_form _ _ _ is there
    inside p f (which.negation _ _ z there b) = one_form _ _ _ is there
    inside p f (which.index _ _ d t there among b) = one_form _ _ _ is there
    inside p f (which.name _ _ d there b) = one_form _ _ _ is there
    inside p f (which.selectors _ _ d v there r b) = one_form _ _ _ is there

pub parenthesis_stands : (s : Span) (e : Expr) (i k l j : ℕ) → i ≤ k → l ≤ j → s.last + 1 ≡ j →
    Stands k l (expression e) (λ p f. InExpression p e f)
    → Stands i j (whole_factor (roll-Factor (record { span = s; form = factor_is.Paren e })))
    (λ p f. InFactor p (roll-Factor (record { span = s; form = factor_is.Paren e })) f)
parenthesis_stands s e i k l j low high ends h =
    factor_stands s (factor_is.Paren e) i j (λ last p. (expression e).judge p)
    (λ p f. InExpression p e f)
    (ap form_of (sym (factor_is.rolls-Paren e)) ∙ fold-roll-FactorForm _ _ _ _ _ _ _ _ _ _ _ _ _ _ _
    _ _ _ _ _ _ _ (FactorForm-F.Paren e)) (let some = h.some in omega arith) ends
    (λ p. wide low high (h.leads p)) (λ p f b. which.inside y f e is b) inside
  where
    y : Factor
    y = roll-Factor (record { span = s; form = factor_is.Paren e })

    is : out-FactorForm (out-Factor y).form ≡ FactorForm-F.Paren e
    is = lays s (FactorForm-F.Paren e) _ (factor_is.rolls-Paren e)

    inside : (p : Place) (f : Fault) → InFactor p y f → InExpression p e f
    inside p f (which.inside _ _ d there b) =
        subst (λ z. InExpression p z f) (one_form _ _ _ there is) b
    inside p f (which.negated _ _ z there b) = absurd (one_form _ _ _ is there)
    inside p f (which.negation _ _ z there b) = absurd (one_form _ _ _ is there)
    inside p f (which.index _ _ d t there among b) = absurd (one_form _ _ _ is there)
    inside p f (which.name _ _ d there b) = absurd (one_form _ _ _ is there)
    inside p f (which.selectors _ _ d v there r b) = absurd (one_form _ _ _ is there)

pub negation_stands : (s : Span) (y : Factor) (i k j : ℕ) → i ≤ k → s.last + 1 ≡ j →
    Stands k j (whole_factor y) (λ p f. InFactor p y f)
    → Stands i j (whole_factor (roll-Factor (record { span = s; form = factor_is.Not y })))
    (λ p f. InFactor p (roll-Factor (record { span = s; form = factor_is.Not y })) f)
negation_stands s y i k j low ends h =
    factor_stands s (factor_is.Not y) i j
    (λ last p. (whole_factor y).judge p >>= λ e. of_type 16 boolean (whole_factor y).last e >>=
    λ truth. Ok (typed boolean (x.Not truth)))
    (λ p f. InFactor p y f ⊎ Fails ((whole_factor y).judge p) test f)
    (ap form_of (sym (factor_is.rolls-Not y)) ∙ fold-roll-FactorForm _ _ _ _ _ _ _ _ _ _ _ _ _ _ _ _
    _ _ _ _ _ _ (FactorForm-F.Not y)) (let some = h.some in omega arith) ends
    (λ p. retold (tested ((whole_factor y).judge p) test (wide low (omega arith) (h.leads p))
    (λ x f fails. let there = of_type_at 16 boolean (whole_factor y).last x f fails in
    let some = h.some in let end = h.last in
    (omega (arith, there, some, end), omega (arith, there, end))))
    (sym (told_result ((whole_factor y).judge p))))
    (λ p f. elim [ inl b ↦ which.negated z f y is b | inr b ↦ which.negation z f y is b ]) inside
  where
    test : Typed → Judged RExpr
    test = of_type 16 boolean (whole_factor y).last

    told_result : (r : Judged Typed) →
        told (r >>= λ e. test e >>= λ truth. Ok (typed boolean (x.Not truth))) ≡ told (r >>= test)
    told_result (Ok e) = told_joined (test e) (λ truth. typed boolean (x.Not truth))
    told_result (Err f) = refl

    z : Factor
    z = roll-Factor (record { span = s; form = factor_is.Not y })

    is : out-FactorForm (out-Factor z).form ≡ FactorForm-F.Not y
    is = lays s (FactorForm-F.Not y) _ (factor_is.rolls-Not y)

    inside : (p : Place) (f : Fault) → InFactor p z f → InFactor p y f ⊎
        Fails ((whole_factor y).judge p) test f
    inside p f (which.inside _ _ e there b) = absurd (one_form _ _ _ is there)
    inside p f (which.negated _ _ w there b) =
        inl (subst (λ w. InFactor p w f) (one_form _ _ _ there is) b)
    inside p f (which.negation _ _ w there b) =
        inr (subst (λ w. Fails ((whole_factor w).judge p) (of_type 16 boolean (whole_factor w).last)
        f) (one_form _ _ _ there is) b)
    inside p f (which.index _ _ d t there among b) = absurd (one_form _ _ _ is there)
    inside p f (which.name _ _ d there b) = absurd (one_form _ _ _ is there)
    inside p f (which.selectors _ _ d v there r b) = absurd (one_form _ _ _ is there)

pub name_stands : (s t : Span) (k : ℕ) (ss : List Selector) (j : ℕ) → s.last + 1 ≡ j →
    InOrder SelectorAt (k + 1) ss j
    → Stands k j (whole_factor
    (roll-Factor (record {
      span = s;
      form =
          factor_is.Name (roll-Designator (record { span = t; name = k; selectors = ss }));
    }))) (λ p f. InFactor p (roll-Factor
    (record {
      span = s;
      form =
          factor_is.Name (roll-Designator (record { span = t; name = k; selectors = ss }));
    })) f)
name_stands s t k ss j ends order =
    factor_stands s (factor_is.Name d) k j (λ last p. used p k >>= λ m. designated p
    (record { name = k; selectors = map one_selector ss }) m) (λ p f. Parts p k ss f)
    (ap form_of (sym (factor_is.rolls-Name d)) ∙ fold-roll-FactorForm _ _ _ _ _ _ _ _ _ _ _ _ _ _ _
    _ _ _ _ _ _ _ (FactorForm-F.Name d)
    ∙ ap {B = FactorResult} (λ (r : Selected) (last : ℕ) (p : Place). used p r.name >>= λ m.
    designated p r m) (fold-roll-Designator _ _ _ _ _ _ _ _ _ _ _ _ _ _ _ _ _ _ _ _ _ _ _))
    (let rest = ordered ss (k + 1) j order in omega arith) ends
    (λ p. designated_leads p k j ss order) outside inside
  where
    d : Designator
    d = roll-Designator (record { span = t; name = k; selectors = ss })

    y : Factor
    y = roll-Factor (record { span = s; form = factor_is.Name d })

    Parts : Place → ℕ → List Selector → Fault → Type 0
    Parts p k ss f = NameFails p k (designated p (bare k)) f ⊎
        (AnyOf (InSelector p) ss f ⊎ ((v : Typed) × ((used p k >>= designated p (bare k)) ≡ Ok v) ×
        SelectorsFail p v.type_id ss f))

    is : out-FactorForm (out-Factor y).form ≡ FactorForm-F.Name d
    is = lays s (FactorForm-F.Name d) _ (factor_is.rolls-Name d)

    opens : out-Designator d ≡ record { span = t; name = k; selectors = ss }
    opens = out-roll-Designator _

    parts_of : (p : Place) (f : Fault) → Parts p (out-Designator d).name
        (out-Designator d).selectors f → Parts p k ss f
    parts_of p f b = subst (λ z. Parts p z.name z.selectors f) opens b

    outside : (p : Place) (f : Fault) → Parts p k ss f → InFactor p y f
    outside p f b = by (subst (λ z. Parts p z.name z.selectors f) (sym opens) b)
      where
        by : Parts p (out-Designator d).name (out-Designator d).selectors f → InFactor p y f
        by (inl b) = which.name y f d is b
        by (inr (inl (s, among, b))) = which.index y f d s is among b
        by (inr (inr (v, read, b))) = which.selectors y f d v is read b

    inside : (p : Place) (f : Fault) → InFactor p y f → Parts p k ss f
    inside p f (which.inside _ _ e there b) = absurd (one_form _ _ _ is there)
    inside p f (which.negated _ _ z there b) = absurd (one_form _ _ _ is there)
    inside p f (which.negation _ _ z there b) = absurd (one_form _ _ _ is there)
    inside p f (which.index _ _ c t there among b) =
        parts_of p f (subst (λ c. Parts p (out-Designator c).name (out-Designator c).selectors f)
        (one_form _ _ _ there is) (inr (inl (t, among, b))))
    inside p f (which.name _ _ c there b) =
        parts_of p f (subst (λ c. Parts p (out-Designator c).name (out-Designator c).selectors f)
        (one_form _ _ _ there is) (inl b))
    inside p f (which.selectors _ _ c v there r b) =
        parts_of p f (subst (λ c. Parts p (out-Designator c).name (out-Designator c).selectors f)
        (one_form _ _ _ there is) (inr (inr (v, r, b))))

-- ---- selectors

abbrev selector_form_of : SelectorForm → SelectorResult
selector_form_of = fold-SelectorForm FactorResult SelectorResult Selected Phrase Phrase Next Next
    Next Selection Phrase Phrase factor_form selector_form designator expr factor next_factor
    next_term relation selector simple_expr term

pub field_stands : (s : Span) (i j k : ℕ) → i ≤ k → k < j →
    SelectorAt (roll-Selector (record { span = s; form = selector_is.Field k })) i j
field_stands s i j k low high =
    field_selector (roll-Selector (record { span = s; form = selector_is.Field k })) i j k
    (ap (λ z. out-SelectorForm z.form)
    (out-roll-Selector (record { span = s; form = selector_is.Field k })) ∙ ap out-SelectorForm
    (sym (selector_is.rolls-Field k)) ∙ out-roll-SelectorForm (SelectorForm-F.Field k))
    (λ p t. ap (λ (r : Selection). r p t)
    (fold-roll-Selector _ _ _ _ _ _ _ _ _ _ _ _ _ _ _ _ _ _ _ _ _ _ _
    ∙ ap (λ (r : SelectorResult). r s.last) (ap selector_form_of (sym (selector_is.rolls-Field k))
    ∙ fold-roll-SelectorForm _ _ _ _ _ _ _ _ _ _ _ _ _ _ _ _ _ _ _ _ _ _ (SelectorForm-F.Field k))))
    low high

pub index_stands : (s : Span) (e : Expr) (i k l j : ℕ) →
    Stands k l (expression e) (λ p f. InExpression p e f) → i ≤ k → l ≤ s.last → s.last < j
    → SelectorAt (roll-Selector (record { span = s; form = selector_is.Index e })) i j
index_stands s e i k l j inner low mid high =
    index_selector (roll-Selector (record { span = s; form = selector_is.Index e })) i k l j s.last
    e (ap (λ z. out-SelectorForm z.form)
    (out-roll-Selector (record { span = s; form = selector_is.Index e })) ∙ ap out-SelectorForm
    (sym (selector_is.rolls-Index e)) ∙ out-roll-SelectorForm (SelectorForm-F.Index e))
    (ap (λ z. z.span.last) (out-roll-Selector (record { span = s; form = selector_is.Index e })))
    (λ p t. ap (λ (r : Selection). r p t)
    (fold-roll-Selector _ _ _ _ _ _ _ _ _ _ _ _ _ _ _ _ _ _ _ _ _ _ _
    ∙ ap (λ (r : SelectorResult). r s.last) (ap selector_form_of (sym (selector_is.rolls-Index e))
    ∙ fold-roll-SelectorForm _ _ _ _ _ _ _ _ _ _ _ _ _ _ _ _ _ _ _ _ _ _ (SelectorForm-F.Index e))))
    inner low mid high
