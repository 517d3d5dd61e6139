-- Each expression of a tree is read with a good typing, in a place that fits the module.
use Rattle.std.proofs.Common.{◌≡◌, ℕ, List, [], ◌∷◌, map, Option, Some, None, refl, sym, subst}
use Rattle.std.specs.Prelude.{Ok, slice_get}
use Rattle.pra_list.proofs.Results.{came_of}
use Rattle.pra_list.specs.Results.{◌>>=◌}
use Rattle.ob_syntax.specs.declared.checked.Checked.{Checked}
use Rattle.ob_syntax.specs.declared.checked.RExpr.TheVariants as x
use Rattle.ob_syntax.specs.declared.token.Kind.{Kind}
use Rattle.ob_syntax.specs.declared.tree.Designator.{Designator, roll-Designator}
use Rattle.ob_syntax.specs.declared.tree.Designator.{fold-roll-Designator, ind-Designator}
use Rattle.ob_syntax.specs.declared.tree.Expr.{Expr, Expr-F, roll-Expr, map-Expr, fold-roll-Expr}
use Rattle.ob_syntax.specs.declared.tree.Expr.{ind-Expr}
use Rattle.ob_syntax.specs.declared.tree.Factor.{Factor, roll-Factor, fold-roll-Factor}
use Rattle.ob_syntax.specs.declared.tree.FactorForm.{FactorForm, FactorForm-F, roll-FactorForm}
use Rattle.ob_syntax.specs.declared.tree.FactorForm.{map-FactorForm, fold-FactorForm}
use Rattle.ob_syntax.specs.declared.tree.FactorForm.{fold-roll-FactorForm}
use Rattle.ob_syntax.specs.declared.tree.NextFactor.{NextFactor, roll-NextFactor}
use Rattle.ob_syntax.specs.declared.tree.NextFactor.{fold-roll-NextFactor}
use Rattle.ob_syntax.specs.declared.tree.NextTerm.{NextTerm, roll-NextTerm, fold-roll-NextTerm}
use Rattle.ob_syntax.specs.declared.tree.Relation.{Relation, roll-Relation, fold-roll-Relation}
use Rattle.ob_syntax.specs.declared.tree.Selector.{Selector, roll-Selector, fold-roll-Selector}
use Rattle.ob_syntax.specs.declared.tree.SelectorForm.{SelectorForm, SelectorForm-F}
use Rattle.ob_syntax.specs.declared.tree.SelectorForm.{roll-SelectorForm, map-SelectorForm}
use Rattle.ob_syntax.specs.declared.tree.SelectorForm.{fold-SelectorForm, fold-roll-SelectorForm}
use Rattle.ob_syntax.specs.declared.tree.SimpleExpr.{SimpleExpr, roll-SimpleExpr}
use Rattle.ob_syntax.specs.declared.tree.SimpleExpr.{fold-roll-SimpleExpr}
use Rattle.ob_syntax.specs.declared.tree.Span.{Span}
use Rattle.ob_syntax.specs.declared.tree.Term.{Term, roll-Term, fold-roll-Term}
use Rattle.ob_syntax.specs.Expressions.{Phrase, Next, Selected, Selection, FactorResult}
use Rattle.ob_syntax.specs.Expressions.{SelectorResult, factor_form, selector_form, designator}
use Rattle.ob_syntax.specs.Expressions.{expr, factor, next_factor, next_term, relation, selector}
use Rattle.ob_syntax.specs.Expressions.{simple_expr, term, integer, boolean, of_type, related}
use Rattle.ob_syntax.specs.Expressions.{chained, signed_term, designated, typed, element}
use Rattle.ob_syntax.specs.Expressions.{expression, simple_expression, whole_term, whole_factor}
use Rattle.ob_syntax.specs.Expressions.{following_term, following_factor, comparison, one_selector}
use Rattle.ob_syntax.specs.Expressions.{name_with_selectors}
use Rattle.ob_syntax.specs.Names.{used}
use Rattle.vc_typed.proofs.Bindings.{ok_same}
use Rattle.vc_typed.proofs.ExpressionTypes as e
use Rattle.vc_typed.proofs.ExpressionTypes.{Holds, GoodPhrase, GoodSelection, AllGood, AllPhrases}

abbrev factor_of : FactorForm → FactorResult
factor_of =
    fold-FactorForm FactorResult SelectorResult Selected Phrase Phrase Next Next Next
    Selection Phrase Phrase factor_form selector_form designator expr factor next_factor next_term
    relation selector simple_expr term

abbrev selector_of : SelectorForm → SelectorResult
selector_of =
    fold-SelectorForm FactorResult SelectorResult Selected Phrase Phrase Next Next Next
    Selection Phrase Phrase factor_form selector_form designator expr factor next_factor next_term
    relation selector simple_expr term

module _ (program : Checked) where
  -- ---- what is shown of each production

  abbrev OfFactorForm : FactorForm → Type 0
  OfFactorForm f = (last : ℕ) →
      GoodPhrase program (record { last = last; judge = factor_of f last })

  abbrev OfSelectorForm : SelectorForm → Type 0
  OfSelectorForm f = (last : ℕ) → GoodSelection program (selector_of f last)

  abbrev OfDesignator : Designator → Type 0
  OfDesignator d = AllGood program (name_with_selectors d).selectors

  abbrev OfExpr : Expr → Type 0
  OfExpr y = GoodPhrase program (expression y)

  abbrev OfFactor : Factor → Type 0
  OfFactor y = GoodPhrase program (whole_factor y)

  abbrev OfNextFactor : NextFactor → Type 0
  OfNextFactor y = GoodPhrase program (following_factor y).1

  abbrev OfNextTerm : NextTerm → Type 0
  OfNextTerm y = GoodPhrase program (following_term y).1

  abbrev OfRelation : Relation → Type 0
  OfRelation y = GoodPhrase program (comparison y).1

  abbrev OfSelector : Selector → Type 0
  OfSelector y = GoodSelection program (one_selector y)

  abbrev OfSimple : SimpleExpr → Type 0
  OfSimple y = GoodPhrase program (simple_expression y)

  abbrev OfTerm : Term → Type 0
  OfTerm y = GoodPhrase program (whole_term y)

  -- ---- layers

  abbrev FactorLayer : Type 0
  FactorLayer = FactorForm-F ((y : FactorForm) × OfFactorForm y)
      ((y : SelectorForm) × OfSelectorForm y) ((y : Designator) × OfDesignator y)
      ((y : Expr) × OfExpr y)
      ((y : Factor) × OfFactor y) ((y : NextFactor) × OfNextFactor y)
      ((y : NextTerm) × OfNextTerm y) ((y : Relation) × OfRelation y)
      ((y : Selector) × OfSelector y)
      ((y : SimpleExpr) × OfSimple y) ((y : Term) × OfTerm y)

  abbrev bare_factor : FactorLayer → FactorForm-F FactorForm SelectorForm Designator Expr Factor
      NextFactor NextTerm Relation Selector SimpleExpr Term
  bare_factor = map-FactorForm ((y : FactorForm) × OfFactorForm y)
      ((y : SelectorForm) × OfSelectorForm y) ((y : Designator) × OfDesignator y)
      ((y : Expr) × OfExpr y)
      ((y : Factor) × OfFactor y) ((y : NextFactor) × OfNextFactor y)
      ((y : NextTerm) × OfNextTerm y) ((y : Relation) × OfRelation y)
      ((y : Selector) × OfSelector y)
      ((y : SimpleExpr) × OfSimple y) ((y : Term) × OfTerm y)
      FactorForm SelectorForm Designator Expr Factor NextFactor NextTerm Relation Selector
      SimpleExpr Term
      (λ y. y.0) (λ y. y.0) (λ y. y.0) (λ y. y.0) (λ y. y.0) (λ y. y.0) (λ y. y.0) (λ y. y.0)
      (λ y. y.0) (λ y. y.0) (λ y. y.0)

  abbrev SelectorLayer : Type 0
  SelectorLayer = SelectorForm-F ((y : FactorForm) × OfFactorForm y)
      ((y : SelectorForm) × OfSelectorForm y) ((y : Designator) × OfDesignator y)
      ((y : Expr) × OfExpr y)
      ((y : Factor) × OfFactor y) ((y : NextFactor) × OfNextFactor y)
      ((y : NextTerm) × OfNextTerm y) ((y : Relation) × OfRelation y)
      ((y : Selector) × OfSelector y)
      ((y : SimpleExpr) × OfSimple y) ((y : Term) × OfTerm y)

  abbrev bare_selector : SelectorLayer → SelectorForm-F FactorForm SelectorForm Designator Expr
      Factor NextFactor NextTerm Relation Selector SimpleExpr Term
  bare_selector = map-SelectorForm ((y : FactorForm) × OfFactorForm y)
      ((y : SelectorForm) × OfSelectorForm y) ((y : Designator) × OfDesignator y)
      ((y : Expr) × OfExpr y)
      ((y : Factor) × OfFactor y) ((y : NextFactor) × OfNextFactor y)
      ((y : NextTerm) × OfNextTerm y) ((y : Relation) × OfRelation y)
      ((y : Selector) × OfSelector y)
      ((y : SimpleExpr) × OfSimple y) ((y : Term) × OfTerm y)
      FactorForm SelectorForm Designator Expr Factor NextFactor NextTerm Relation Selector
      SimpleExpr Term
      (λ y. y.0) (λ y. y.0) (λ y. y.0) (λ y. y.0) (λ y. y.0) (λ y. y.0) (λ y. y.0) (λ y. y.0)
      (λ y. y.0) (λ y. y.0) (λ y. y.0)

  -- ---- forms of factors and selectors

  factor_from : (y : FactorForm-F FactorForm SelectorForm Designator Expr Factor NextFactor NextTerm
      Relation Selector SimpleExpr Term) (r : FactorResult) → factor_of (roll-FactorForm y) ≡ r
      → ((last : ℕ) → GoodPhrase program (record { last = last; judge = r last })) →
      OfFactorForm (roll-FactorForm y)
  factor_from y r is good last =
      subst (λ (z : FactorResult). GoodPhrase program (record { last = last; judge = z last }))
      (sym is) (good last)

  factor_form_case : (y : FactorLayer) → OfFactorForm (roll-FactorForm (bare_factor y))
  factor_form_case (FactorForm-F.Name d) = factor_from _ _
      (fold-roll-FactorForm FactorResult SelectorResult Selected Phrase Phrase Next Next Next
      Selection Phrase Phrase factor_form selector_form designator expr factor next_factor
      next_term relation selector simple_expr term (FactorForm-F.Name d.0))
      (λ last. record {
        holds = λ p fits y is.
            let of = came_of (used p (name_with_selectors d.0).name)
            (λ m. designated p (name_with_selectors d.0) m) y is in
            e.designated_holds program p fits (name_with_selectors d.0) d.1 of.0 y
            (e.used_there program p fits (name_with_selectors d.0).name of.0 of.1) of.2;
      })
  factor_form_case (FactorForm-F.Number n) = factor_from _ _
      (fold-roll-FactorForm FactorResult SelectorResult Selected Phrase Phrase Next Next Next
      Selection Phrase Phrase factor_form selector_form designator expr factor next_factor
      next_term relation selector simple_expr term (FactorForm-F.Number n))
      (λ last. record {
        holds = λ p fits y is. subst (Holds program p.here)
            (ok_same (typed integer (x.Number n)) y is) (e.number_holds program p.here n);
      })
  factor_form_case (FactorForm-F.Paren y) = factor_from _ _
      (fold-roll-FactorForm FactorResult SelectorResult Selected Phrase Phrase Next Next Next
      Selection Phrase Phrase factor_form selector_form designator expr factor next_factor
      next_term relation selector simple_expr term (FactorForm-F.Paren y.0))
      (λ last. record { holds = λ p fits z is. y.1.holds p fits z is })
  factor_form_case (FactorForm-F.Not f) = factor_from _ _
      (fold-roll-FactorForm FactorResult SelectorResult Selected Phrase Phrase Next Next Next
      Selection Phrase Phrase factor_form selector_form designator expr factor next_factor
      next_term relation selector simple_expr term (FactorForm-F.Not f.0))
      (λ last. record {
        holds = λ p fits y is.
            let one = came_of ((whole_factor f.0).judge p)
            (λ z. of_type 16 boolean (whole_factor f.0).last z >>= λ truth. Ok
            (typed boolean (x.Not truth))) y is in
            let two = came_of (of_type 16 boolean (whole_factor f.0).last one.0)
            (λ truth. Ok (typed boolean (x.Not truth))) y one.2 in
            subst (Holds program p.here) (ok_same (typed boolean (x.Not two.0)) y two.2)
            (e.not_holds program p.here two.0
            (e.of_type_typed program p.here 16 boolean (whole_factor f.0).last one.0 two.0 refl
            (f.1.holds p fits one.0 one.1) two.1));
      })

  selector_from : (y : SelectorForm-F FactorForm SelectorForm Designator Expr Factor NextFactor
      NextTerm Relation Selector SimpleExpr Term) (r : SelectorResult) →
      selector_of (roll-SelectorForm y) ≡ r
      → ((last : ℕ) → GoodSelection program (r last)) → OfSelectorForm (roll-SelectorForm y)
  selector_from y r is good last = subst (λ (z : SelectorResult). GoodSelection program (z last))
      (sym is) (good last)

  selector_form_case : (y : SelectorLayer) → OfSelectorForm (roll-SelectorForm (bare_selector y))
  selector_form_case (SelectorForm-F.Field k) = selector_from _ _
      (fold-roll-SelectorForm FactorResult SelectorResult Selected Phrase Phrase Next Next Next
      Selection Phrase Phrase factor_form selector_form designator expr factor next_factor
      next_term relation selector simple_expr term (SelectorForm-F.Field k))
      (λ last. record {
        leads = λ p fits type_id r is. e.field_selects program p fits k type_id
            (slice_get p.types type_id) r refl is;
      })
  selector_form_case (SelectorForm-F.Index y) = selector_from _ _
      (fold-roll-SelectorForm FactorResult SelectorResult Selected Phrase Phrase Next Next Next
      Selection Phrase Phrase factor_form selector_form designator expr factor next_factor
      next_term relation selector simple_expr term (SelectorForm-F.Index y.0))
      (λ last. record {
        leads = λ p fits type_id r is.
            let one = came_of ((expression y.0).judge p)
            (λ index. of_type 14 integer (expression y.0).last index >>= λ number. element last
            number (slice_get p.types type_id)) r is in
            let two = came_of (of_type 14 integer (expression y.0).last one.0)
            (λ number. element last number (slice_get p.types type_id)) r one.2 in
            e.element_selects program p fits last type_id two.0 (slice_get p.types type_id) r
            (e.of_type_typed program p.here 14 integer (expression y.0).last one.0 two.0 refl
            (y.1.holds p fits one.0 one.1) two.1) refl two.2;
      })

  -- ---- records

  selections_good : (ss : List ((y : Selector) × OfSelector y)) →
      AllGood program (map one_selector (map (λ y. y.0) ss))
  selections_good [] = tt
  selections_good (s ∷ ss) = (s.1, selections_good ss)

  designator_case : (s : Span) (name : ℕ) (ss : List ((y : Selector) × OfSelector y)) →
      OfDesignator (roll-Designator
      (record { span = s; name = name; selectors = map (λ y. y.0) ss }))
  designator_case s name ss = subst (λ (d : Selected). AllGood program d.selectors)
      (sym (fold-roll-Designator FactorResult SelectorResult Selected Phrase Phrase Next Next Next
      Selection Phrase Phrase factor_form selector_form designator expr factor next_factor
      next_term relation selector simple_expr term _))
      (selections_good ss)

  abbrev bare_expr : Expr-F ((y : FactorForm) × OfFactorForm y)
      ((y : SelectorForm) × OfSelectorForm y) ((y : Designator) × OfDesignator y)
      ((y : Expr) × OfExpr y)
      ((y : Factor) × OfFactor y) ((y : NextFactor) × OfNextFactor y)
      ((y : NextTerm) × OfNextTerm y) ((y : Relation) × OfRelation y)
      ((y : Selector) × OfSelector y)
      ((y : SimpleExpr) × OfSimple y) ((y : Term) × OfTerm y) →
      Expr-F FactorForm SelectorForm Designator Expr Factor NextFactor NextTerm Relation
      Selector SimpleExpr Term
  bare_expr = map-Expr ((y : FactorForm) × OfFactorForm y) ((y : SelectorForm) × OfSelectorForm y)
      ((y : Designator) × OfDesignator y) ((y : Expr) × OfExpr y)
      ((y : Factor) × OfFactor y) ((y : NextFactor) × OfNextFactor y)
      ((y : NextTerm) × OfNextTerm y) ((y : Relation) × OfRelation y)
      ((y : Selector) × OfSelector y)
      ((y : SimpleExpr) × OfSimple y) ((y : Term) × OfTerm y)
      FactorForm SelectorForm Designator Expr Factor NextFactor NextTerm Relation Selector
      SimpleExpr Term
      (λ y. y.0) (λ y. y.0) (λ y. y.0) (λ y. y.0) (λ y. y.0) (λ y. y.0) (λ y. y.0) (λ y. y.0)
      (λ y. y.0) (λ y. y.0) (λ y. y.0)

  expr_case : (s : Span) (l : (y : SimpleExpr) × OfSimple y)
      (r : Option ((y : Relation) × OfRelation y)) →
      OfExpr (roll-Expr (bare_expr (record { span = s; left = l; relation = r })))
  expr_case s l None =
      (subst (GoodPhrase program)
      (sym (fold-roll-Expr FactorResult SelectorResult Selected Phrase Phrase Next Next Next
      Selection Phrase Phrase factor_form selector_form designator expr factor next_factor
      next_term relation selector simple_expr term _))
      (record {
        holds = λ p fits y is.
            let of = came_of ((simple_expression l.0).judge p) (λ z. Ok z) y is in
            subst (Holds program p.here) (ok_same of.0 y of.2) (l.1.holds p fits of.0 of.1);
      }))
  expr_case s l (Some r) =
      (subst (GoodPhrase program)
      (sym (fold-roll-Expr FactorResult SelectorResult Selected Phrase Phrase Next Next Next
      Selection Phrase Phrase factor_form selector_form designator expr factor next_factor
      next_term relation selector simple_expr term _))
      (record {
        holds = λ p fits y is.
            let of = came_of ((simple_expression l.0).judge p)
            (λ z. related p (simple_expression l.0).last z (comparison r.0)) y is in
            e.related_holds program p fits (simple_expression l.0).last of.0 (comparison r.0).0
            (comparison r.0).1 y (l.1.holds p fits of.0 of.1) r.1 of.2;
      }))

  factor_case : (s : Span) (f : (y : FactorForm) × OfFactorForm y) →
      OfFactor (roll-Factor (record { span = s; form = f.0 }))
  factor_case s f = subst (GoodPhrase program)
      (sym (fold-roll-Factor FactorResult SelectorResult Selected Phrase Phrase Next Next Next
      Selection Phrase Phrase factor_form selector_form designator expr factor next_factor
      next_term relation selector simple_expr term _))
      (f.1 s.last)

  next_factor_case : (o : Kind) (f : (y : Factor) × OfFactor y) →
      OfNextFactor (roll-NextFactor (record { op = o; factor = f.0 }))
  next_factor_case o f = subst (λ (n : Next). GoodPhrase program n.1)
      (sym (fold-roll-NextFactor FactorResult SelectorResult Selected Phrase Phrase Next Next Next
      Selection Phrase Phrase factor_form selector_form designator expr factor next_factor
      next_term relation selector simple_expr term _))
      f.1

  next_term_case : (o : Kind) (f : (y : Term) × OfTerm y) →
      OfNextTerm (roll-NextTerm (record { op = o; term = f.0 }))
  next_term_case o f = subst (λ (n : Next). GoodPhrase program n.1)
      (sym (fold-roll-NextTerm FactorResult SelectorResult Selected Phrase Phrase Next Next Next
      Selection Phrase Phrase factor_form selector_form designator expr factor next_factor
      next_term relation selector simple_expr term _))
      f.1

  relation_case : (o : Kind) (f : (y : SimpleExpr) × OfSimple y) →
      OfRelation (roll-Relation (record { op = o; right = f.0 }))
  relation_case o f = subst (λ (n : Next). GoodPhrase program n.1)
      (sym (fold-roll-Relation FactorResult SelectorResult Selected Phrase Phrase Next Next Next
      Selection Phrase Phrase factor_form selector_form designator expr factor next_factor
      next_term relation selector simple_expr term _))
      f.1

  selector_case : (s : Span) (f : (y : SelectorForm) × OfSelectorForm y) →
      OfSelector (roll-Selector (record { span = s; form = f.0 }))
  selector_case s f = subst (GoodSelection program)
      (sym (fold-roll-Selector FactorResult SelectorResult Selected Phrase Phrase Next Next Next
      Selection Phrase Phrase factor_form selector_form designator expr factor next_factor
      next_term relation selector simple_expr term _))
      (f.1 s.last)

  terms_good : (ns : List ((y : NextTerm) × OfNextTerm y)) →
      AllPhrases program (map following_term (map (λ y. y.0) ns))
  terms_good [] = tt
  terms_good (n ∷ ns) = (n.1, terms_good ns)

  factors_good : (ns : List ((y : NextFactor) × OfNextFactor y)) →
      AllPhrases program (map following_factor (map (λ y. y.0) ns))
  factors_good [] = tt
  factors_good (n ∷ ns) = (n.1, factors_good ns)

  simple_case : (s : Span) (sign : Option Kind) (first : (y : Term) × OfTerm y)
      (ns : List ((y : NextTerm) × OfNextTerm y)) →
      OfSimple (roll-SimpleExpr
      (record { span = s; sign = sign; first = first.0; rest = map (λ y. y.0) ns }))
  simple_case s sign first ns = subst (GoodPhrase program)
      (sym (fold-roll-SimpleExpr FactorResult SelectorResult Selected Phrase Phrase Next Next Next
      Selection Phrase Phrase factor_form selector_form designator expr factor next_factor
      next_term relation selector simple_expr term _))
      (record {
        holds = λ p fits y is.
            let f = whole_term first.0 in
            let rest = map following_term (map (λ y. y.0) ns) in
            let one = came_of (f.judge p)
            (λ z. signed_term sign f.last z >>= λ left. chained p f.last left rest) y is in
            let two = came_of (signed_term sign f.last one.0) (λ left. chained p f.last left rest) y
            one.2 in
            e.chained_holds program p fits f.last two.0 rest y (terms_good ns)
            (e.signed_holds program p.here sign f.last one.0 two.0
            (first.1.holds p fits one.0 one.1) two.1) two.2;
      })

  term_case : (s : Span) (first : (y : Factor) × OfFactor y)
      (ns : List ((y : NextFactor) × OfNextFactor y)) →
      OfTerm (roll-Term (record { span = s; first = first.0; rest = map (λ y. y.0) ns }))
  term_case s first ns = subst (GoodPhrase program)
      (sym (fold-roll-Term FactorResult SelectorResult Selected Phrase Phrase Next Next Next
      Selection Phrase Phrase factor_form selector_form designator expr factor next_factor
      next_term relation selector simple_expr term _))
      (record {
        holds = λ p fits y is.
            let f = whole_factor first.0 in
            let rest = map following_factor (map (λ y. y.0) ns) in
            let one = came_of (f.judge p) (λ z. chained p f.last z rest) y is in
            e.chained_holds program p fits f.last one.0 rest y (factors_good ns)
            (first.1.holds p fits one.0 one.1) one.2;
      })

  pub expression_good : (y : Expr) → GoodPhrase program (expression y)
  expression_good = ind-Expr OfFactorForm OfSelectorForm OfDesignator OfExpr OfFactor OfNextFactor
      OfNextTerm OfRelation OfSelector OfSimple OfTerm
      (λ x y is. subst (λ z. OfFactorForm (roll-FactorForm z)) is (factor_form_case y))
      (λ x y is. subst (λ z. OfSelectorForm (roll-SelectorForm z)) is (selector_form_case y))
      (λ x y is. subst (λ z. OfDesignator (roll-Designator z)) is
      (designator_case y.span y.name y.selectors))
      (λ x y is. subst (λ z. OfExpr (roll-Expr z)) is (expr_case y.span y.left y.relation))
      (λ x y is. subst (λ z. OfFactor (roll-Factor z)) is (factor_case y.span y.form))
      (λ x y is. subst (λ z. OfNextFactor (roll-NextFactor z)) is (next_factor_case y.op y.factor))
      (λ x y is. subst (λ z. OfNextTerm (roll-NextTerm z)) is (next_term_case y.op y.term))
      (λ x y is. subst (λ z. OfRelation (roll-Relation z)) is (relation_case y.op y.right))
      (λ x y is. subst (λ z. OfSelector (roll-Selector z)) is (selector_case y.span y.form))
      (λ x y is. subst (λ z. OfSimple (roll-SimpleExpr z)) is
      (simple_case y.span y.sign y.first y.rest))
      (λ x y is. subst (λ z. OfTerm (roll-Term z)) is (term_case y.span y.first y.rest))

  pub selections_hold : (d : Designator) → AllGood program (name_with_selectors d).selectors
  selections_hold = ind-Designator OfFactorForm OfSelectorForm OfDesignator OfExpr OfFactor
      OfNextFactor OfNextTerm OfRelation OfSelector OfSimple OfTerm
      (λ x y is. subst (λ z. OfFactorForm (roll-FactorForm z)) is (factor_form_case y))
      (λ x y is. subst (λ z. OfSelectorForm (roll-SelectorForm z)) is (selector_form_case y))
      (λ x y is. subst (λ z. OfDesignator (roll-Designator z)) is
      (designator_case y.span y.name y.selectors))
      (λ x y is. subst (λ z. OfExpr (roll-Expr z)) is (expr_case y.span y.left y.relation))
      (λ x y is. subst (λ z. OfFactor (roll-Factor z)) is (factor_case y.span y.form))
      (λ x y is. subst (λ z. OfNextFactor (roll-NextFactor z)) is (next_factor_case y.op y.factor))
      (λ x y is. subst (λ z. OfNextTerm (roll-NextTerm z)) is (next_term_case y.op y.term))
      (λ x y is. subst (λ z. OfRelation (roll-Relation z)) is (relation_case y.op y.right))
      (λ x y is. subst (λ z. OfSelector (roll-Selector z)) is (selector_case y.span y.form))
      (λ x y is. subst (λ z. OfSimple (roll-SimpleExpr z)) is
      (simple_case y.span y.sign y.first y.rest))
      (λ x y is. subst (λ z. OfTerm (roll-Term z)) is (term_case y.span y.first y.rest))
