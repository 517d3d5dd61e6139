-- Procedures, and declarations as a whole.
use Rattle.std.proofs.Common.{◌≡◌, ℕ, ◌<◌, ◌≤◌, ◌⊎◌, inl, inr, List, [], ◌∷◌, ◌++◌, map, refl, ap}
use Rattle.std.proofs.Common.{sym, subst, ◌∙◌, arith}
use Rattle.std.specs.Prelude.{Ok, Err, bytes_eq}
use Rattle.pra_list.proofs.Results.{came_of}
use Rattle.ob_syntax.specs.declared.checked.Draft.{Draft}
use Rattle.ob_syntax.specs.declared.checked.Param.{Param}
use Rattle.ob_syntax.specs.declared.checked.RStmt.{RStmt}
use Rattle.ob_syntax.specs.declared.tree.ConstDecl.{ConstDecl}
use Rattle.ob_syntax.specs.declared.tree.Decls.{Decls, out-Decls, roll-Decls, out-roll-Decls}
use Rattle.ob_syntax.specs.declared.tree.Decls.{fold-roll-Decls}
use Rattle.ob_syntax.specs.declared.tree.NameList.{NameList}
use Rattle.ob_syntax.specs.declared.tree.Proc.{Proc, out-Proc, roll-Proc, out-roll-Proc}
use Rattle.ob_syntax.specs.declared.tree.Proc.{fold-roll-Proc}
use Rattle.ob_syntax.specs.declared.tree.Section.{Section}
use Rattle.ob_syntax.specs.declared.tree.Span.{Span}
use Rattle.ob_syntax.specs.declared.tree.Stmt.{Stmt}
use Rattle.ob_syntax.specs.declared.tree.TypeDecl.{TypeDecl}
use Rattle.ob_syntax.specs.Declarations.{all_constants, all_type_declarations, all_variables, left}
use Rattle.ob_syntax.specs.Declarations.{nodes_of, with_nodes, Declared, ProcResult, DeclsResult}
use Rattle.ob_syntax.specs.Declarations.{all_procedures, decls_step, closed, drafted, heading}
use Rattle.ob_syntax.specs.Declarations.{proc_step, declarations, procedure}
use Rattle.ob_syntax.specs.Names.{Fault, Judged, Place, name_at}
use Rattle.ob_syntax.specs.Statements.{each, statement}
use Rattle.ob_first.specs.Faults.{AnyOf, Behind}
use Rattle.ob_first.specs.InStatements.{InStatement}
use Rattle.ob_first.specs.InDeclarations as which
use Rattle.ob_first.specs.InDeclarations.{InConstants, InTypeDeclarations, InVariables, InHeading}
use Rattle.ob_first.specs.InDeclarations.{PlaceBehind, all_behind, variables_behind, behind_step}
use Rattle.ob_first.specs.InDeclarations.{behind_proc_step, behind_declarations, behind_procedure}
use Rattle.ob_first.specs.InDeclarations.{InDeclarations, InProcedures, InProcedure}
use Rattle.ob_first.proofs.Leads.{told, Leads, InOrder, alike, wide, after, after_behind, joined}
use Rattle.ob_first.proofs.Leads.{nothing, told_joined, same_value, retold}
use Rattle.ob_first.proofs.Selections.{alone, regrouped}
use Rattle.ob_first.proofs.Calls.{ExpressionAt}
use Rattle.ob_first.proofs.StatementRules.{StatementAt, each_leads, items_in_order}
use Rattle.ob_first.proofs.TypeRules.{NameAt, NameListAt, TypeAt, lists_in_order}
use Rattle.ob_first.proofs.DeclarationRules.{ConstantAt, TypeDeclarationAt, SectionAt}
use Rattle.ob_first.proofs.DeclarationRules.{defined_in_order, sections_in_order, constants_lead}
use Rattle.ob_first.proofs.DeclarationRules.{types_lead, variables_lead, heading_leads}
use Rattle.pra_list.proofs.Choices.{by_test}
use Rattle.pra_list.specs.Results.{◌>>=◌}

-- ---- what a statement part and the name after END tell, behind declarations

abbrev In : Place → List Stmt → Fault → Type 0
In q ss f = AnyOf (InStatement q) ss f

closed_at : (rule : ℕ) (p : Place) (name close : ℕ) (f : Fault) → closed rule p name close ≡ Err f →
    f.1 ≡ close
closed_at rule p name close f h = by_test (bytes_eq (name_at p close) (name_at p name)) (Ok p)
    (Err (rule, close)) (Err f) (λ t is. cc) (λ t is. cc) h

closed_is : (rule : ℕ) (p : Place) (name close : ℕ) (q : Place) → closed rule p name close ≡ Ok q →
    p ≡ q
closed_is rule p name close q h = by_test (bytes_eq (name_at p close) (name_at p name)) (Ok p)
    (Err (rule, close)) (Ok q) (λ t is. cc) (λ t is. cc) h

-- the place in front of a body is that behind declarations, where these are read
pub body_leads : {D V : Type 0} (i k l m j rule name close : ℕ) (d : Judged D) (place : D → Place)
    (b : Judged Place) (ss : List Stmt) (P : Fault → Type 0)
    → Leads i k (told d) P → ((x : D) → d ≡ Ok x → b ≡ Ok (place x)) → i ≤ k → k ≤ l →
    InOrder StatementAt l ss m → m ≤ close → close < j
    → (h : D → List RStmt → Place → V)
    → Leads i j (told (d >>= λ x. each (place x) [] (map statement ss) >>= λ body. closed rule
    (place x) name close >>= λ end. Ok (h x body end)))
    (λ f. P f ⊎ (Behind b (λ q g. In q ss g) f ⊎ Behind b (λ q g. closed rule q name close ≡ Err g)
    f))
body_leads {D} {V} i k l m j rule name close d place b ss P front same low mid order high some h =
    after d rest front (λ x is. alike (at (place x) (h x)) refl
    (λ f. elim [ inl e ↦ inl (place x, same x is, e) | inr e ↦ inr (place x, same x is, e) ])
    (λ f. elim [
      | inl (q, is', e) ↦ inl (subst (λ (z : Place). In z ss f)
          (same_value b q (place x) is' (same x is)) e)
      | inr (q, is', e) ↦ inr (subst (λ (z : Place). closed rule z name close ≡ Err f)
          (same_value b q (place x) is' (same x is)) e)
    ]))
    (λ f. elim [
      | inl (q, is, e) ↦ (at q (λ body end. end)).lies f (inl e)
      | inr (q, is, e) ↦
          (at q (λ body end. end)).lies f (inr e)
    ])
    low (omega (arith, items_in_order statement InStatement ss l m order))
  where
    rest : D → Judged V
    rest x = each (place x) [] (map statement ss) >>= λ body. closed rule (place x) name close >>=
        λ end. Ok (h x body end)

    Q : Fault → Type 0
    Q f = Behind b (λ q g. In q ss g) f ⊎ Behind b (λ q g. closed rule q name close ≡ Err g) f

    at : {W : Type 0} (q : Place) (g : List RStmt → Place → W)
        → Leads k j (told (each q [] (map statement ss) >>= λ body. closed rule q name close >>=
        λ end. Ok (g body end))) (λ f. In q ss f ⊎ (closed rule q name close ≡ Err f))
    at q g =
        let inner = items_in_order statement InStatement ss l m order in
        joined {k = m} (each q [] (map statement ss)) (closed rule q name close) g
        (wide mid (omega arith) (each_leads statement InStatement q ss [] l m order))
        (alone (closed rule q name close) (λ f e. let there = closed_at rule q name close f e in
        (omega (arith, there), omega (arith, there)))) (omega arith) (omega arith)

-- ---- procedures

-- a procedure at tokens i up to j, and the place behind it
pub record ProcedureAt (x : Proc) (i j : ℕ) : Type 0 where
  pub some : i ≤ j
  pub leads : (p : Place) → Leads i j (told (procedure x p)) (InProcedure p x)
  pub behind : (p : Place) (r : Place × List Draft) → procedure x p ≡ Ok r → behind_procedure x p ≡
      Ok r.0

pub record DeclarationsAt (d : Decls) (i j : ℕ) : Type 0 where
  pub some : i ≤ j
  pub leads : (p : Place) → Leads i j (told (declarations d p)) (InDeclarations p d)
  pub behind : (p : Place) (r : Declared) → declarations d p ≡ Ok r → behind_declarations d p ≡
      Ok r.place

pub procedures_in_order : (xs : List Proc) (i j : ℕ) → InOrder ProcedureAt i xs j → i ≤ j
procedures_in_order [] i j h = h
procedures_in_order (x ∷ xs) i j (a, b, low, one, order) = let some = one.some in let rest =
    procedures_in_order xs b j order in omega arith

procedures_open : (p : Place) (x : Proc) (xs : List Proc) (f : Fault) → InProcedures p (x ∷ xs) f →
    InProcedure p x f ⊎ Behind (behind_procedure x p) (λ q g. InProcedures q xs g) f
procedures_open p x xs f (which.one _ _ _ _ b) = inl b
procedures_open p x xs f (which.others _ _ _ _ q is b) = inr (q, is, b)

procedures_close : (p : Place) (x : Proc) (xs : List Proc) (f : Fault) → InProcedure p x f ⊎
    Behind (behind_procedure x p) (λ q g. InProcedures q xs g) f → InProcedures p (x ∷ xs) f
procedures_close p x xs f (inl b) = which.one p x xs f b
procedures_close p x xs f (inr (q, is, b)) = which.others p x xs f q is b

no_procedures : (p : Place) (f : Fault) → InProcedures p [] f → ⊥
no_procedures p f = elim [ ]

pub procedures_lead : (xs : List Proc) (p : Place) (done : List Draft) (i j : ℕ) →
    InOrder ProcedureAt i xs j → Leads i j (told (all_procedures p done (map procedure xs)))
    (InProcedures p xs)
procedures_lead [] p done i j order = alike nothing refl (λ f b. absurd b) (no_procedures p)
procedures_lead (x ∷ xs) p done i j (a, b, low, one, order) =
    alike (after (procedure x p) (λ more. all_procedures more.0 (done ++ more.1) (map procedure xs))
    (wide low (omega arith) (one.leads p)) (λ more is. alike
    (procedures_lead xs more.0 (done ++ more.1) b j order) refl
    (λ f e. (more.0, one.behind p more is, e)) (λ f (q, is', e). subst
    (λ (z : Place). InProcedures z xs f)
    (same_value (behind_procedure x p) q more.0 is' (one.behind p more is)) e))
    (λ f (q, is, e). (procedures_lead xs q [] b j order).lies f e)
    (let some = one.some in omega arith) (procedures_in_order xs b j order)) refl
    (procedures_close p x xs) (procedures_open p x xs)

procedures_behind : (xs : List Proc) (p : Place) (done : List Draft) (i j : ℕ)
    (r : Place × List Draft) → InOrder ProcedureAt i xs j →
    all_procedures p done (map procedure xs) ≡ Ok r → all_behind p (map behind_procedure xs) ≡
    Ok r.0
procedures_behind [] p done i j r order h = ap (λ (z : Place × List Draft). Ok z.0)
    (same_value (Ok (p, done)) (p, done) r refl h)
procedures_behind (x ∷ xs) p done i j r (a, b, low, one, order) h =
    let of = came_of (procedure x p)
    (λ more. all_procedures more.0 (done ++ more.1) (map procedure xs)) r h in
    ap (λ (z : Judged Place). z >>= λ q. all_behind q (map behind_procedure xs))
    (one.behind p of.0 of.1)
    ∙ procedures_behind xs of.0.0 (done ++ of.0.1) b j r order of.2

-- ---- declarations

four : {A B C D : Type 0} (a : Judged A) (f : A → Judged B) (g : B → Judged C) (h : C → Judged D) →
    (((a >>= f) >>= g) >>= h) ≡ (a >>= λ x. f x >>= λ y. g y >>= h)
four (Ok x) f g h = regrouped (f x) g h
four (Err e) f g h = refl

module _ (cs : List ConstDecl) (ts : List TypeDecl) (vs : List NameList) (ps : List Proc) where
  abbrev whole : Decls
  whole = roll-Decls (record { consts = cs; types = ts; vars = vs; procs = ps })

  abbrev both : Place → Judged Place
  both p = all_constants p cs >>= λ q. all_type_declarations q ts

  abbrev three : Place → Judged (Place × List ℕ)
  three p = both p >>= λ r. all_variables r [] vs

  abbrev last : Place × List ℕ → Judged Declared
  last vars = all_procedures vars.0 [] (map procedure ps) >>= λ procs. Ok
      (record { place = procs.0; vars = vars.1; procs = procs.1 })

  read_in_four : (p : Place) → (three p >>= last) ≡ declarations whole p
  read_in_four p =
      four (all_constants p cs) (λ q. all_type_declarations q ts) (λ r. all_variables r [] vs) last
      ∙ ap (λ (r : DeclsResult). r p)
      (sym (fold-roll-Decls DeclsResult ProcResult decls_step proc_step _))

  Parts : Place → List ConstDecl → List TypeDecl → List NameList → List Proc → Fault → Type 0
  Parts p cs ts vs ps f =
      ((InConstants p cs f ⊎ Behind (all_constants p cs) (λ q g. InTypeDeclarations q ts g) f) ⊎
      Behind (all_constants p cs >>= λ q. all_type_declarations q ts) (λ q g. InVariables q [] vs g)
      f) ⊎
      Behind (variables_behind p cs ts vs) (λ vars g. InProcedures vars.0 ps g) f

  opens : out-Decls whole ≡ record { consts = cs; types = ts; vars = vs; procs = ps }
  opens = out-roll-Decls _

  parts_outside : (d : Decls) (p : Place) (f : Fault) → Parts p (out-Decls d).consts
      (out-Decls d).types (out-Decls d).vars (out-Decls d).procs f → InDeclarations p d f
  unfolding Parts
  parts_outside d p f (inl (inl (inl b))) = which.constants p d f b
  parts_outside d p f (inl (inl (inr b))) = which.types p d f b
  parts_outside d p f (inl (inr b)) = which.variables p d f b
  parts_outside d p f (inr (q, is, b)) = which.procedures p d f q is b

  parts_inside : (d : Decls) (p : Place) (f : Fault) → InDeclarations p d f →
      Parts p (out-Decls d).consts (out-Decls d).types (out-Decls d).vars (out-Decls d).procs f
  unfolding Parts
  parts_inside d p f (which.constants _ _ _ b) = inl (inl (inl b))
  parts_inside d p f (which.types _ _ _ b) = inl (inl (inr b))
  parts_inside d p f (which.variables _ _ _ b) = inl (inr b)
  parts_inside d p f (which.procedures _ _ _ q is b) = inr (q, is, b)

  pub declarations_stand : (i k l m j : ℕ) → InOrder ConstantAt i cs k →
      InOrder TypeDeclarationAt k ts l → InOrder NameListAt l vs m → InOrder ProcedureAt m ps j →
      DeclarationsAt whole i j
  unfolding Parts
  declarations_stand i k l m j constants types variables procedures = record {
    some = omega (arith, first, second, third, fourth);
    leads = λ p. alike (after_behind i m j (three p) last (λ f.
        (InConstants p cs f ⊎ Behind (all_constants p cs) (λ q g. InTypeDeclarations q ts g) f)
        ⊎ Behind (both p) (λ q g. InVariables q [] vs g) f) (λ vars g. InProcedures vars.0 ps g)
        (after_behind i l m (both p) (λ r. all_variables r [] vs)
        (λ f. InConstants p cs f ⊎ Behind (all_constants p cs) (λ q g. InTypeDeclarations q ts g) f)
        (λ q g. InVariables q [] vs g) (after_behind i k l (all_constants p cs)
        (λ q. all_type_declarations q ts) (InConstants p cs)
        (λ q g. InTypeDeclarations q ts g) (constants_lead cs p i k constants)
        (λ q. types_lead ts q k l types) first second) (λ r. variables_lead vs r [] l m variables)
        (omega (arith, first, second)) third) (λ vars. retold
        (procedures_lead ps vars.0 [] m j procedures) (sym (told_joined
        (all_procedures vars.0 [] (map procedure ps))
        (λ procs. record { place = procs.0; vars = vars.1; procs = procs.1 }))))
        (omega (arith, first, second, third)) fourth) (ap told (read_in_four p)) (λ f b.
        parts_outside whole p f (subst (λ z. Parts p z.consts z.types z.vars z.procs f) (sym opens)
        (subst (λ (r : Judged (Place × List ℕ)). (
        (InConstants p cs f ⊎ Behind (all_constants p cs) (λ q g. InTypeDeclarations q ts g) f)
        ⊎ Behind (both p) (λ q g. InVariables q [] vs g) f) ⊎ Behind r
        (λ vars g. InProcedures vars.0 ps g) f) (regrouped (all_constants p cs)
        (λ q. all_type_declarations q ts) (λ r. all_variables r [] vs)) b))) (λ f b. subst
        (λ (r : Judged (Place × List ℕ)). (
        (InConstants p cs f ⊎ Behind (all_constants p cs) (λ q g. InTypeDeclarations q ts g) f)
        ⊎ Behind (both p) (λ q g. InVariables q [] vs g) f) ⊎ Behind r
        (λ vars g. InProcedures vars.0 ps g) f) (sym (regrouped (all_constants p cs)
        (λ q. all_type_declarations q ts) (λ r. all_variables r [] vs)))
        (subst (λ z. Parts p z.consts z.types z.vars z.procs f) opens (parts_inside whole p f b)));
    behind = λ p r h.
        let of = came_of (three p) last r (read_in_four p ∙ h) in
        let of' = came_of (all_procedures of.0.0 [] (map procedure ps))
        (λ procs. Ok (record { place = procs.0; vars = of.0.1; procs = procs.1 })) r of.2 in
        ap (λ (r : PlaceBehind). r p)
        (fold-roll-Decls PlaceBehind PlaceBehind behind_step behind_proc_step _)
        ∙ ap (λ (r : Judged (Place × List ℕ)). r >>= λ vars. all_behind vars.0
        (map behind_procedure ps))
        (sym (regrouped (all_constants p cs) (λ q. all_type_declarations q ts)
        (λ r. all_variables r [] vs)) ∙ of.1)
        ∙ procedures_behind ps of.0.0 [] m j of'.0 procedures of'.1
        ∙ ap (λ (d : Declared). Ok d.place)
        (same_value _ (record { place = of'.0.0; vars = of.0.1; procs = of'.0.1 }) r refl
        of'.2);
  }
    where
      first : i ≤ k
      first = defined_in_order (λ c. c.name) (λ c. ExpressionAt c.value) cs i k constants

      second : k ≤ l
      second = defined_in_order (λ t. t.name) (λ t. TypeAt t.shape) ts k l types

      third : l ≤ m
      third = lists_in_order vs l m variables

      fourth : m ≤ j
      fourth = procedures_in_order ps m j procedures

-- ---- one procedure

told_behind : {X Y Z W U V : Type 0} (a : Judged X) (d : X → Judged Y) (e : Y → Judged Z)
    (c : Y → Judged W) (h : X → Y → Z → W → U) (g : Y → Z → W → V)
    → told ((a >>= d) >>= λ y. e y >>= λ z. c y >>= λ w. Ok (g y z w)) ≡
    told (a >>= λ x. d x >>= λ y. e y >>= λ z. c y >>= λ w. Ok (h x y z w))
told_behind {X} {Y} {Z} {W} {U} {V} a d e c h g = first a
  where
    fourth : (x : X) (y : Y) (z : Z) (r : Judged W) → told (r >>= λ w. Ok (g y z w)) ≡
        told (r >>= λ w. Ok (h x y z w))
    fourth x y z (Ok w) = refl
    fourth x y z (Err f) = refl

    third : (x : X) (y : Y) (r : Judged Z) → told (r >>= λ z. c y >>= λ w. Ok (g y z w)) ≡
        told (r >>= λ z. c y >>= λ w. Ok (h x y z w))
    third x y (Ok z) = fourth x y z (c y)
    third x y (Err f) = refl

    second : (x : X) (r : Judged Y) → told (r >>= λ y. e y >>= λ z. c y >>= λ w. Ok (g y z w)) ≡
        told (r >>= λ y. e y >>= λ z. c y >>= λ w. Ok (h x y z w))
    second x (Ok y) = third x y (e y)
    second x (Err f) = refl

    first : (r : Judged X) → told ((r >>= d) >>= λ y. e y >>= λ z. c y >>= λ w. Ok (g y z w)) ≡
        told (r >>= λ x. d x >>= λ y. e y >>= λ z. c y >>= λ w. Ok (h x y z w))
    first (Ok x) = second x (d x)
    first (Err f) = refl

steps_of : {X Y Z W V : Type 0} (a : Judged X) (d : X → Judged Y) (e : Y → Judged Z)
    (c : Y → Judged W) (h : X → Y → Z → W → V) (r : V)
    → (a >>= λ x. d x >>= λ y. e y >>= λ z. c y >>= λ w. Ok (h x y z w)) ≡ Ok r → (x : X) ×
    (y : Y) × (z : Z) × (w : W) × (a ≡ Ok x) × (d x ≡ Ok y) × (c y ≡ Ok w) × (h x y z w ≡ r)
steps_of {X} {Y} {Z} {W} {V} a d e c h r is =
    first (came_of a (λ x. d x >>= λ y. e y >>= λ z. c y >>= λ w. Ok (h x y z w)) r is)
  where
    Steps : Type 0
    Steps = (x : X) × (y : Y) × (z : Z) × (w : W) × (a ≡ Ok x) × (d x ≡ Ok y) × (c y ≡ Ok w) ×
        (h x y z w ≡ r)

    value : V → Judged V
    value v = Ok v

    value_is : (v : V) → value v ≡ Ok r → v ≡ r
    value_is v is = same_value (value v) v r refl is

    fourth : (x : X) (y : Y) (z : Z) → a ≡ Ok x → d x ≡ Ok y →
        ((w : W) × (c y ≡ Ok w) × (value (h x y z w) ≡ Ok r)) → Steps
    fourth x y z ax dx (w, cy, is) = (x, y, z, w, ax, dx, cy, value_is (h x y z w) is)

    third : (x : X) (y : Y) → a ≡ Ok x → d x ≡ Ok y →
        ((z : Z) × (e y ≡ Ok z) × ((c y >>= λ w. Ok (h x y z w)) ≡ Ok r)) → Steps
    third x y ax dx (z, ey, is) = fourth x y z ax dx (came_of (c y) (λ w. Ok (h x y z w)) r is)

    second : (x : X) → a ≡ Ok x →
        ((y : Y) × (d x ≡ Ok y) × ((e y >>= λ z. c y >>= λ w. Ok (h x y z w)) ≡ Ok r)) → Steps
    second x ax (y, dx, is) =
        third x y ax dx (came_of (e y) (λ z. c y >>= λ w. Ok (h x y z w)) r is)

    first : ((x : X) × (a ≡ Ok x) ×
        ((d x >>= λ y. e y >>= λ z. c y >>= λ w. Ok (h x y z w)) ≡ Ok r)) → Steps
    first (x, ax, is) = second x ax
        (came_of (d x) (λ y. e y >>= λ z. c y >>= λ w. Ok (h x y z w)) r is)

module _ (s : Span) (name : ℕ) (params : List Section) (ds : Decls) (ss : List Stmt)
    (close : ℕ) where
  abbrev proc : Proc
  proc = roll-Proc (record {
    span = s;
    name = name;
    params = params;
    decls = ds;
    body = ss;
    close =
        close;
  })

  ProcParts : Place → ℕ → List Section → Decls → List Stmt → ℕ → Fault → Type 0
  ProcParts p name params ds ss close f =
      (InHeading p name params f ⊎ Behind (heading p name params) (λ q g. InDeclarations q.0 ds g)
      f) ⊎
      (Behind (heading p name params >>= λ q. behind_declarations ds q.0) (λ q g. In q ss g) f ⊎
      Behind (heading p name params >>= λ q. behind_declarations ds q.0)
      (λ q g. closed 2 q name close ≡ Err g) f)

  proc_opens : out-Proc proc ≡ record {
    span = s;
    name = name;
    params = params;
    decls = ds;
    body =
        ss;
    close = close;
  }
  proc_opens = out-roll-Proc _

  proc_outside : (x : Proc) (p : Place) (f : Fault) → ProcParts p (out-Proc x).name
      (out-Proc x).params (out-Proc x).decls (out-Proc x).body (out-Proc x).close f →
      InProcedure p x f
  unfolding ProcParts
  proc_outside x p f (inl (inl b)) = which.in_heading p x f b
  proc_outside x p f (inl (inr (q, is, b))) = which.inside p x f q is b
  proc_outside x p f (inr (inl b)) = which.body p x f b
  proc_outside x p f (inr (inr b)) = which.close p x f b

  proc_inside : (x : Proc) (p : Place) (f : Fault) → InProcedure p x f →
      ProcParts p (out-Proc x).name (out-Proc x).params (out-Proc x).decls (out-Proc x).body
      (out-Proc x).close f
  unfolding ProcParts
  proc_inside x p f (which.in_heading _ _ _ b) = inl (inl b)
  proc_inside x p f (which.inside _ _ _ q is b) = inl (inr (q, is, b))
  proc_inside x p f (which.body _ _ _ b) = inr (inl b)
  proc_inside x p f (which.close _ _ _ b) = inr (inr b)

  -- what a procedure is read as
  abbrev made_of : Place → Place × List Param → Declared → List RStmt → Place → Place × List Draft
  made_of p inside x body end = (
    with_nodes (left end p.here) (nodes_of end.tokens ss),
    drafted end.here name inside.1 x.vars (nodes_of end.tokens ss) body ∷ x.procs,
  )

  place_behind : (p : Place) (q : Place × List Param) (e end : Place) (r : Place × List Draft) →
      heading p name params ≡ Ok q → behind_declarations ds q.0 ≡ Ok e → e ≡ end
      → with_nodes (left end p.here) (nodes_of end.tokens ss) ≡ r.0 → behind_procedure proc p ≡
      Ok r.0
  place_behind p q e end r headed declared same is =
      ap (λ (r : PlaceBehind). r p)
      (fold-roll-Proc PlaceBehind PlaceBehind behind_step behind_proc_step _)
      ∙ ap (λ (r : Judged (Place × List Param)). r >>= λ q. behind_declarations ds q.0 >>= result)
      headed
      ∙ ap (λ (r : Judged Place). r >>= result) declared
      ∙ ap result same
      ∙ ap (λ (x : Place). Ok x) is
    where
      result : Place → Judged Place
      result e = Ok (with_nodes (left e p.here) (nodes_of e.tokens ss))

  pub procedure_stands : (i a b c d e g h j : ℕ) → NameAt name i a → a ≤ b →
      InOrder SectionAt b params c → c ≤ d → DeclarationsAt ds d e → e ≤ g →
      InOrder StatementAt g ss h → h ≤ close → close < j → ProcedureAt proc i j
  unfolding ProcParts
  procedure_stands i a b c d e g h j at low sections mid decls next statements high some = record {
    some = omega (arith, at.0, at.1, second, third, fourth);
    leads = λ p. alike (body_leads i e g h j 2 name close
        (heading p name params >>= λ q. declarations ds q.0) (λ x. x.place)
        (heading p name params >>= λ q. behind_declarations ds q.0) ss (λ f. InHeading p name params
        f ⊎ Behind (heading p name params) (λ q g. InDeclarations q.0 ds g) f) (after_behind i d e
        (heading p name params) (λ q. declarations ds q.0) (InHeading p name params)
        (λ q g. InDeclarations q.0 ds g)
        (wide (omega arith) mid (heading_leads p name params i a b c at low sections))
        (λ q. decls.leads q.0) (omega (arith, at.0, at.1, second)) third) (λ x is. let of = came_of
        (heading p name params) (λ q. declarations ds q.0) x is in ap
        (λ (r : Judged (Place × List Param)). r >>= λ q. behind_declarations ds q.0) of.1
        ∙ decls.behind of.0.0 x of.2) (omega (arith, at.0, at.1, second, third)) next statements
        high some (λ x body end. end)) (told_behind (heading p name params)
        (λ q. declarations ds q.0) (λ x. each x.place [] (map statement ss))
        (λ x. closed 2 x.place name close) (made_of p) (λ x body end. end) ∙ ap
        (λ (r : ProcResult). told (r p))
        (sym (fold-roll-Proc DeclsResult ProcResult decls_step proc_step _))) (λ f b. proc_outside
        proc p f
        (subst (λ z. ProcParts p z.name z.params z.decls z.body z.close f) (sym proc_opens) b))
        (λ f b. subst (λ z. ProcParts p z.name z.params z.decls z.body z.close f) proc_opens
        (proc_inside proc p f b));
    behind = λ p r is.
        let of = steps_of (heading p name params) (λ q. declarations ds q.0)
        (λ x. each x.place [] (map statement ss)) (λ x. closed 2 x.place name close) (made_of p) r
        (ap (λ (r : ProcResult). r p)
        (sym (fold-roll-Proc DeclsResult ProcResult decls_step proc_step _)) ∙ is) in
        known p r of.0 of.1 of.2 of.3 of.4 of.5 of.6 of.7;
  }
    where
      known : (p : Place) (r : Place × List Draft) (q : Place × List Param) (x : Declared)
          (body : List RStmt) (end : Place) → heading p name params ≡ Ok q → declarations ds q.0 ≡
          Ok x
          → closed 2 x.place name close ≡ Ok end → made_of p q x body end ≡ r →
          behind_procedure proc p ≡ Ok r.0
      known p r q x body end headed declared named made =
          place_behind p q x.place end r headed (decls.behind q.0 x declared)
          (closed_is 2 x.place name close end named) (ap (λ (y : Place × List Draft). y.0) made)

      second : b ≤ c
      second = sections_in_order params b c sections

      third : d ≤ e
      third = decls.some

      fourth : g ≤ h
      fourth = items_in_order statement InStatement ss g h statements
