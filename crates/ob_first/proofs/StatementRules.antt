-- Statements, production by production.
use Rattle.std.proofs.Common.{◌≡◌, ℕ, ◌+◌, ◌<◌, ◌≤◌, ◌⊎◌, inl, inr, List, [], ◌∷◌, ◌++◌, map, refl}
use Rattle.std.proofs.Common.{ap, sym, subst, ◌∙◌, arith}
use Rattle.std.specs.Prelude.{Ok, Err}
use Rattle.pra_list.specs.Among.{Among}
use Rattle.ob_syntax.specs.declared.checked.Meaning.{Meaning}
use Rattle.ob_syntax.specs.declared.checked.Meaning.TheVariants.{Variable}
use Rattle.ob_syntax.specs.declared.checked.RArm.{RArm, roll-RArm}
use Rattle.ob_syntax.specs.declared.checked.RStmt.{RStmt}
use Rattle.ob_syntax.specs.declared.checked.RStmt.TheVariants as made
use Rattle.ob_syntax.specs.declared.checked.RVar.{RVar, out-RVar}
use Rattle.ob_syntax.specs.declared.checked.Typed.{Typed}
use Rattle.ob_syntax.specs.declared.tree.Arm.{Arm, out-Arm, roll-Arm, out-roll-Arm, fold-roll-Arm}
use Rattle.ob_syntax.specs.declared.tree.Designator.{Designator, out-Designator, roll-Designator}
use Rattle.ob_syntax.specs.declared.tree.Designator.{out-roll-Designator, fold-roll-Designator}
use Rattle.ob_syntax.specs.declared.tree.Expr.{Expr, out-Expr}
use Rattle.ob_syntax.specs.declared.tree.Selector.{Selector}
use Rattle.ob_syntax.specs.declared.tree.Span.{Span}
use Rattle.ob_syntax.specs.declared.tree.Stmt.{Stmt, out-Stmt, roll-Stmt, out-roll-Stmt}
use Rattle.ob_syntax.specs.declared.tree.Stmt.{fold-roll-Stmt}
use Rattle.ob_syntax.specs.declared.tree.StmtForm.{StmtForm, StmtForm-F, out-StmtForm}
use Rattle.ob_syntax.specs.declared.tree.StmtForm.{out-roll-StmtForm, fold-StmtForm}
use Rattle.ob_syntax.specs.declared.tree.StmtForm.{roll-StmtForm, fold-roll-StmtForm}
use Rattle.ob_syntax.specs.declared.tree.StmtForm.TheVariants as form_is
use Rattle.ob_syntax.specs.Expressions.{Selected, boolean, of_type, are_alike, selected, variable}
use Rattle.ob_syntax.specs.Expressions.{expression, one_selector, name_with_selectors}
use Rattle.ob_syntax.specs.Names.{Fault, Judged, Place, used}
use Rattle.ob_syntax.specs.Statements.{Judge, StmtResult, stmt_form, arm_step, stmt_step, target}
use Rattle.ob_syntax.specs.Statements.{assigned, condition, each, statement, arm}
use Rattle.ob_first.specs.Faults.{BothFail, AnyOf, NameFails}
use Rattle.ob_first.specs.InExpressions.{bare, SelectorsFail, InExpression, InSelector}
use Rattle.ob_first.specs.InStatements as which
use Rattle.ob_first.specs.InStatements.{TargetFails, AssignmentFails, InCondition, Layer}
use Rattle.ob_first.specs.InStatements.{StatementFails, arms_in, statements_in, layer, InStatement}
use Rattle.ob_first.specs.InStatements.{InArm}
use Rattle.ob_first.proofs.Leads.{told, Leads, InOrder, alike, wide, after, tested, both_tested}
use Rattle.ob_first.proofs.Leads.{joined, nothing, told_joined, retold}
use Rattle.ob_first.proofs.Chains.{of_type_at}
use Rattle.ob_first.proofs.Selections.{SelectorAt, regrouped, ordered, named_selected}
use Rattle.ob_first.proofs.Calls.{ExpressionAt, last_of, call_leads}
use Rattle.pra_list.proofs.Choices.{by_test}
use Rattle.pra_list.specs.Results.{◌>>=◌}

-- what is read at tokens i up to j
pub record ReadsAt {A : Type 0} (i j : ℕ) (read : Place → Judged A)
    (B : Place → Fault → Type 0) : Type 0 where
  pub some : i ≤ j
  pub leads : (p : Place) → Leads i j (told (read p)) (B p)

-- ---- one after another

module _ {X A : Type 0} (item : X → Judge A) (B : Place → X → Fault → Type 0) where
  abbrev pub ItemAt : X → ℕ → ℕ → Type 0
  ItemAt x i j = ReadsAt i j (item x) (λ p f. B p x f)

  pub items_in_order : (xs : List X) (i j : ℕ) → InOrder ItemAt i xs j → i ≤ j
  items_in_order [] i j h = h
  items_in_order (x ∷ xs) i j (k, l, low, one, order) = let some = one.some in let rest =
      items_in_order xs l j order in omega arith

  pub each_leads : (p : Place) (xs : List X) (done : List A) (i j : ℕ) → InOrder ItemAt i xs j →
      Leads i j (told (each p done (map item xs))) (λ f. AnyOf (B p) xs f)
  each_leads p [] done i j order = alike nothing refl (λ f b. absurd b) (λ f b. b.1)
  each_leads p (x ∷ xs) done i j (k, l, low, one, order) =
      alike (after (item x p) (λ one. each p (done ++ one ∷ []) (map item xs))
      (wide low (omega arith) (one.leads p)) (λ y is. each_leads p xs (done ++ y ∷ []) l j order)
      (each_leads p xs done l j order).lies (let some = one.some in omega arith)
      (items_in_order xs l j order)) refl
      (λ f. elim [ inl b ↦ (x, inl refl, b) | inr (y, is, b) ↦ (y, inr is, b) ])
      (λ f (y, is, b). one_or_other f y is b)
    where
      one_or_other : (f : Fault) (y : X) → Among y (x ∷ xs) → B p y f → B p x f ⊎ AnyOf (B p) xs f
      one_or_other f y (inl is) b = inl (subst (λ z. B p z f) is b)
      one_or_other f y (inr is) b = inr (y, is, b)

-- ---- conditions

pub condition_leads : (p : Place) (e : Expr) (i j : ℕ) → ExpressionAt e i j →
    Leads i j (told (condition p e)) (InCondition p e)
condition_leads p e i j at =
    tested ((expression e).judge p) (of_type 19 boolean (out-Expr e).span.last) (at.leads p)
    (λ x f h. let there = of_type_at 19 boolean (out-Expr e).span.last x f h in let is =
    last_of e in let end = at.last in let some = at.some in
    (omega (arith, there, is, end, some), omega (arith, there, is, end)))

-- ---- assignments

target_at : (p : Place) (k : ℕ) (m : Meaning) (f : Fault) → target p (bare k) m ≡ Err f →
    (f.1 ≡ k) × (6 ≤ f.0)
target_at p k (Variable owner root t) f h = absurd (cc)
target_at p k m f h = let at : f.1 ≡ k = cc in let rule : f.0 ≡ 10 = cc in (at, omega (arith, rule))

target_parts : (p : Place) (d : Selected) (r : Judged Meaning)
    → told ((r >>= target p (bare d.name)) >>= λ v. selected p [] (out-RVar v).type_id d.selectors)
    ≡ told (r >>= λ m. target p d m)
target_parts p d (Ok (Variable owner root t)) =
    sym (told_joined (selected p [] t d.selectors) (variable root))
target_parts p d (Ok m) = refl
target_parts p d (Err f) = refl

assigned_at : (token : ℕ) (v : RVar) (e : Typed) (f : Fault) → assigned token v e ≡ Err f →
    f.1 ≡ token
assigned_at token v e f h = by_test (are_alike (out-RVar v).type_id e.type_id)
    (Ok (made.Assign v e.expr)) (Err (18, token)) (Err f) (λ t is. cc) (λ t is. cc) h

-- a name with selectors that is assigned to
target_leads : (p : Place) (k j : ℕ) (ss : List Selector) → InOrder SelectorAt (k + 1) ss j
    → Leads k j (told (used p k >>= target p
    (record { name = k; selectors = map one_selector ss })))
    (λ f. NameFails p k (target p (bare k)) f ⊎ (AnyOf (InSelector p) ss f ⊎
    ((v : RVar) × ((used p k >>= target p (bare k)) ≡ Ok v) ×
    SelectorsFail p (out-RVar v).type_id ss f)))
target_leads p k j ss order =
    retold
    (named_selected p k j (target p (bare k)) (λ v. (out-RVar v).type_id) ss (target_at p k) order)
    (target_parts p (record { name = k; selectors = map one_selector ss }) (used p k))

-- ---- statements

abbrev form_of : StmtForm → StmtResult
form_of = fold-StmtForm StmtResult (Judge RArm) (Judge RStmt) stmt_form arm_step stmt_step

abbrev pub StatementAt : Stmt → ℕ → ℕ → Type 0
StatementAt t i j = ReadsAt i j (statement t) (λ p f. InStatement p t f)

abbrev pub ArmAt : Arm → ℕ → ℕ → Type 0
ArmAt a i j = ReadsAt i j (arm a) (λ p f. InArm p a f)

abbrev Parts : Place → ℕ → Layer → Fault → Type 0
Parts p last y f = StatementFails p last y f ⊎
    (AnyOf (InArm p) (arms_in y) f ⊎ AnyOf (InStatement p) (statements_in y)
    f)

-- a layer of readings
abbrev map_layer : Layer → StmtForm-F StmtResult (Judge RArm) (Judge RStmt)
map_layer (StmtForm-F.Assign d e) = StmtForm-F.Assign d e
map_layer (StmtForm-F.Call name es) = StmtForm-F.Call name es
map_layer (StmtForm-F.If arms other) = StmtForm-F.If (map arm arms) (map statement other)
map_layer (StmtForm-F.While e body) = StmtForm-F.While e (map statement body)
map_layer (StmtForm-F.Repeat body e) = StmtForm-F.Repeat (map statement body) e

read_layer : (y : Layer) → form_of (roll-StmtForm y) ≡ stmt_form (map_layer y)
read_layer (StmtForm-F.Assign d e) = fold-roll-StmtForm _ _ _ _ _ _ (StmtForm-F.Assign d e)
read_layer (StmtForm-F.Call k es) = fold-roll-StmtForm _ _ _ _ _ _ (StmtForm-F.Call k es)
read_layer (StmtForm-F.If xs ss) = fold-roll-StmtForm _ _ _ _ _ _ (StmtForm-F.If xs ss)
read_layer (StmtForm-F.While e ss) = fold-roll-StmtForm _ _ _ _ _ _ (StmtForm-F.While e ss)
read_layer (StmtForm-F.Repeat ss e) = fold-roll-StmtForm _ _ _ _ _ _ (StmtForm-F.Repeat ss e)

statement_stands : (s : Span) (y : Layer) (g : StmtForm) (i j : ℕ) → roll-StmtForm y ≡ g → i ≤ j →
    ((p : Place) → Leads i j (told (stmt_form (map_layer y) s.last p)) (Parts p s.last y))
    → StatementAt (roll-Stmt (record { span = s; form = g })) i j
statement_stands s y g i j rolls some leads = record {
  some = some;
  leads = λ p. alike (leads p) (ap (λ (r : Judge RStmt). told (r p)) (sym (fold-roll-Stmt StmtResult
      (Judge RArm) (Judge RStmt) stmt_form arm_step stmt_step (record { span = s; form = g }) ∙ ap
      (λ (r : StmtResult). r s.last) (ap form_of (sym rolls) ∙ read_layer y))))
      (λ f b. outside p f (subst (λ z. Parts p s.last z f) (sym lays) b))
      (λ f b. subst (λ z. Parts p s.last z f) lays (inside p f b));
}
  where
    t : Stmt
    t = roll-Stmt (record { span = s; form = g })

    opens : out-Stmt t ≡ record { span = s; form = g }
    opens = out-roll-Stmt _

    lays : layer t ≡ y
    lays = ap (λ z. out-StmtForm z.form) (out-roll-Stmt (record { span = s; form = g }))
        ∙ ap out-StmtForm (sym rolls) ∙ out-roll-StmtForm y

    outside : (p : Place) (f : Fault) → Parts p s.last (layer t) f → InStatement p t f
    outside p f (inl b) = which.itself t f
        (subst (λ z. StatementFails p z.span.last (layer t) f) (sym opens) b)
    outside p f (inr (inl (a, among, b))) = which.in_arm t f a among b
    outside p f (inr (inr (u, among, b))) = which.in_statement t f u among b

    inside : (p : Place) (f : Fault) → InStatement p t f → Parts p s.last (layer t) f
    inside p f (which.itself _ _ b) =
        inl (subst (λ z. StatementFails p z.span.last (layer t) f) opens b)
    inside p f (which.in_arm _ _ a among b) = inr (inl (a, among, b))
    inside p f (which.in_statement _ _ u among b) = inr (inr (u, among, b))

pub assignment_stands : (s t : Span) (k : ℕ) (ss : List Selector) (e : Expr) (l m j : ℕ) →
    s.last + 1 ≡ j → l ≤ m → InOrder SelectorAt (k + 1) ss l → ExpressionAt e m j
    → StatementAt (roll-Stmt
    (record {
      span = s;
      form =
          form_is.Assign (roll-Designator (record { span = t; name = k; selectors = ss })) e;
    })) k j
assignment_stands s t k ss e l m j ends low order value =
    statement_stands s (StmtForm-F.Assign d e) _ k j (form_is.rolls-Assign d e)
    (let first = ordered ss (k + 1) l order in let some = value.some in omega arith)
    (λ p. alike (both_tested (used p k >>= target p whole) ((expression e).judge p)
    (assigned s.last) (target_leads p k l ss order) (wide low (omega arith) (value.leads p))
    (let first = ordered ss (k + 1) l order in omega arith) (let some = value.some in omega arith)
    (λ v x f h. let at = assigned_at s.last v x f h in let some = value.some in
    (omega (arith, at, some), omega (arith, at)))) (ap told (regrouped (used p k) (target p whole)
    (λ v. (expression e).judge p >>= λ value. assigned s.last v value) ∙ ap (λ (w : Selected). used
    p w.name >>= λ m. target p w m >>= λ v. (expression e).judge p >>= λ value. assigned s.last v
    value) (sym reads))) (λ f b. inl (outside p f b))
    (λ f. elim [
      | inl b ↦ inside p f b
      | inr (inl (a, is, b)) ↦
          absurd is
      | inr (inr (a, is, b)) ↦ absurd is
    ]))
  where
    d : Designator
    d = roll-Designator (record { span = t; name = k; selectors = ss })

    whole : Selected
    whole = record { name = k; selectors = map one_selector ss }

    opens : out-Designator d ≡ record { span = t; name = k; selectors = ss }
    opens = out-roll-Designator _

    reads : name_with_selectors d ≡ whole
    reads = fold-roll-Designator _ _ _ _ _ _ _ _ _ _ _ _ _ _ _ _ _ _ _ _ _ _ _

    Named : Place → ℕ → List Selector → Fault → Type 0
    Named p k ss f = NameFails p k (target p (bare k)) f ⊎
        (AnyOf (InSelector p) ss f ⊎ ((v : RVar) × ((used p k >>= target p (bare k)) ≡ Ok v) ×
        SelectorsFail p (out-RVar v).type_id ss f))

    Sides : Place → Selected → Fault → Type 0
    Sides p w f = BothFail (used p w.name >>= target p w) ((expression e).judge p) (assigned s.last)
        f

    outside : (p : Place) (f : Fault) → Named p k ss f ⊎ (InExpression p e f ⊎ Sides p whole f) →
        AssignmentFails p s.last d e f
    outside p f (inl b) = inl (subst (λ z. Named p z.name z.selectors f) (sym opens) b)
    outside p f (inr (inl b)) = inr (inl b)
    outside p f (inr (inr b)) = inr (inr (subst (λ (w : Selected). Sides p w f) (sym reads) b))

    inside : (p : Place) (f : Fault) → AssignmentFails p s.last d e f → Named p k ss f ⊎
        (InExpression p e f ⊎ Sides p whole f)
    inside p f (inl b) = inl (subst (λ z. Named p z.name z.selectors f) opens b)
    inside p f (inr (inl b)) = inr (inl b)
    inside p f (inr (inr b)) = inr (inr (subst (λ (w : Selected). Sides p w f) reads b))

pub call_stands : (s : Span) (k : ℕ) (es : List Expr) (j : ℕ) → s.last + 1 ≡ j → k < j →
    InOrder ExpressionAt (k + 1) es j →
    StatementAt (roll-Stmt (record { span = s; form = form_is.Call k es })) k j
call_stands s k es j ends some order =
    statement_stands s (StmtForm-F.Call k es) _ k j (form_is.rolls-Call k es) (omega arith)
    (λ p. alike (call_leads p s.last k es j ends some order) refl (λ f b. inl b)
    (λ f. elim [
      | inl b ↦ b
      | inr (inl (a, is, b)) ↦ absurd is
      | inr (inr (a, is, b)) ↦
          absurd is
    ]))

pub if_stands : (s : Span) (xs : List Arm) (others : List Stmt) (i k l j m : ℕ) → i ≤ k → m ≤ j →
    InOrder ArmAt k xs l → InOrder StatementAt l others m
    → StatementAt (roll-Stmt (record { span = s; form = form_is.If xs others })) i j
if_stands s xs others i k l j m low high first rest =
    statement_stands s (StmtForm-F.If xs others) _ i j (form_is.rolls-If xs others)
    (let a = items_in_order arm InArm xs k l first in let b =
    items_in_order statement InStatement others l m rest in omega arith)
    (λ p. alike (wide low high (joined (each p [] (map arm xs)) (each p [] (map statement others))
    (λ choices otherwise. made.If choices otherwise) (each_leads arm InArm p xs [] k l first)
    (each_leads statement InStatement p others [] l m rest) (items_in_order arm InArm xs k l first)
    (items_in_order statement InStatement others l m rest))) refl (λ f b. inr b)
    (λ f. elim [ inl b ↦ absurd b | inr b ↦ b ]))

pub while_stands : (s : Span) (e : Expr) (ss : List Stmt) (i k l n m j : ℕ) → i ≤ k → l ≤ n →
    m ≤ j → ExpressionAt e k l → InOrder StatementAt n ss m
    → StatementAt (roll-Stmt (record { span = s; form = form_is.While e ss })) i j
while_stands s e ss i k l n m j low mid high first rest =
    statement_stands s (StmtForm-F.While e ss) _ i j (form_is.rolls-While e ss)
    (let a = first.some in let b = items_in_order statement InStatement ss n m
    rest in omega arith)
    (λ p. alike (joined (condition p e) (each p [] (map statement ss)) (λ c turn. made.While c turn)
    (wide low (omega arith) (condition_leads p e k l first))
    (wide mid high (each_leads statement InStatement p ss [] n m rest))
    (let a = first.some in omega arith)
    (let b = items_in_order statement InStatement ss n m rest in omega arith)) refl
    (λ f. elim [ inl b ↦ inl b | inr b ↦ inr (inr b) ])
    (λ f. elim [ inl b ↦ inl b | inr (inl (a, is, b)) ↦ absurd is | inr (inr b) ↦ inr b ]))

pub repeat_stands : (s : Span) (ss : List Stmt) (e : Expr) (i k l n j : ℕ) → i ≤ k → l ≤ n →
    InOrder StatementAt k ss l → ExpressionAt e n j
    → StatementAt (roll-Stmt (record { span = s; form = form_is.Repeat ss e })) i j
repeat_stands s ss e i k l n j low mid first last =
    statement_stands s (StmtForm-F.Repeat ss e) _ i j (form_is.rolls-Repeat ss e)
    (let a = last.some in let b = items_in_order statement InStatement ss k l
    first in omega arith) (λ p. alike (joined (each p [] (map statement ss)) (condition p e)
    (λ turn c. made.Repeat turn c)
    (wide low (omega arith) (each_leads statement InStatement p ss [] k l first))
    (wide mid (omega arith) (condition_leads p e n j last))
    (let b = items_in_order statement InStatement ss k l first in omega arith)
    (let a = last.some in omega arith)) refl (λ f. elim [ inl b ↦ inr (inr b) | inr b ↦ inl b ])
    (λ f. elim [ inl b ↦ inr b | inr (inl (a, is, b)) ↦ absurd is | inr (inr b) ↦ inl b ]))

pub arm_stands : (e : Expr) (ss : List Stmt) (i k l n j : ℕ) → i ≤ k → l ≤ n → ExpressionAt e k l →
    InOrder StatementAt n ss j → ArmAt (roll-Arm (record { test = e; body = ss })) i j
arm_stands e ss i k l n j low mid first rest = record {
  some = let a = first.some in let b = items_in_order statement InStatement ss n j
      rest in omega arith;
  leads = λ p. alike (joined (condition p e) (each p [] (map statement ss))
      (λ c body. roll-RArm (record { test = c; body = body }))
      (wide low (omega arith) (condition_leads p e k l first))
      (wide mid (omega arith) (each_leads statement InStatement p ss [] n j rest))
      (let a = first.some in omega arith)
      (let b = items_in_order statement InStatement ss n j rest in omega arith))
      (ap (λ (r : Judge RArm). told (r p))
      (sym (fold-roll-Arm StmtResult (Judge RArm) (Judge RStmt) stmt_form arm_step stmt_step _)))
      (outside p) (inside p);
}
  where
    a : Arm
    a = roll-Arm (record { test = e; body = ss })

    opens : out-Arm a ≡ record { test = e; body = ss }
    opens = out-roll-Arm _

    outside : (p : Place) (f : Fault) → InCondition p e f ⊎ AnyOf (InStatement p) ss f →
        InArm p a f
    outside p f (inl b) = which.test a f (subst (λ z. InCondition p z.test f) (sym opens) b)
    outside p f (inr (t, among, b)) =
        which.body a f t (subst (λ z. Among t z.body) (sym opens) among) b

    inside : (p : Place) (f : Fault) → InArm p a f → InCondition p e f ⊎
        AnyOf (InStatement p) ss f
    inside p f (which.test _ _ b) = inl (subst (λ z. InCondition p z.test f) opens b)
    inside p f (which.body _ _ t among b) = inr (t, subst (λ z. Among t z.body) opens among, b)
