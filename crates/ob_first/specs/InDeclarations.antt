-- Where declarations break a rule at a place, whatever else is broken in them.
--
-- A declaration makes the scope of what stands behind it. So where one has no reading, nothing
-- behind it is looked at, and where a heading has none, nothing in the procedure; but a procedure's
-- statements take no part in the scope behind it.
use Rattle.std.specs.Prelude.{◌≡◌, ℕ, ◌⊎◌, List, [], ◌∷◌, length, Ok, Err}
use Rattle.ob_syntax.specs.declared.checked.Param.{Param}
use Rattle.ob_syntax.specs.declared.tree.ConstDecl.{ConstDecl}
use Rattle.ob_syntax.specs.declared.tree.Decls.{Decls, Decls-F, out-Decls, fold-Decls}
use Rattle.ob_syntax.specs.declared.tree.NameList.{NameList, out-NameList}
use Rattle.ob_syntax.specs.declared.tree.Proc.{Proc, Proc-F, out-Proc, fold-Proc}
use Rattle.ob_syntax.specs.declared.tree.Section.{Section}
use Rattle.ob_syntax.specs.declared.tree.TypeDecl.{TypeDecl}
use Rattle.ob_syntax.specs.declared.tree.TypeExpr.{out-TypeExpr}
use Rattle.ob_syntax.specs.Declarations.{announced, constant_declaration}
use Rattle.ob_syntax.specs.Declarations.{all_constants, type_declaration, all_type_declarations}
use Rattle.ob_syntax.specs.Declarations.{variable_list, all_variables, parameter_type, section}
use Rattle.ob_syntax.specs.Declarations.{entered, left, heading, closed, nodes_of, with_nodes}
use Rattle.ob_syntax.specs.Names.{Fault, Judged, Place}
use Rattle.ob_syntax.specs.Types.{type_expression}
use Rattle.ob_first.specs.Faults.{Fails, AnyOf, Behind, value_or}
use Rattle.ob_first.specs.InStatements.{InStatement}
use Rattle.ob_first.specs.InTypes.{InConstant, InType}
use Rattle.pra_list.specs.Results.{◌>>=◌}

-- ---- names that are declared

-- the place behind a name that is declared; one that stands twice leaves the scope as it is
abbrev pub behind_name : Place → ℕ → Place
behind_name p k = value_or p (announced p k)

abbrev pub behind_names : Place → List ℕ → Place
behind_names p [] = p
behind_names p (k ∷ ks) = behind_names (behind_name p k) ks

-- each name is tested in the scope with those before it
abbrev pub NamesFail : Place → List ℕ → Fault → Type 0
NamesFail p [] f = ⊥
NamesFail p (k ∷ ks) f = (announced p k ≡ Err f) ⊎ NamesFail (behind_name p k) ks f

-- ---- CONST, TYPE, VAR

abbrev pub InConstants : Place → List ConstDecl → Fault → Type 0
InConstants p [] f = ⊥
InConstants p (c ∷ cs) f =
    (announced p c.name ≡ Err f) ⊎
    (InConstant (behind_name p c.name) c.value f ⊎
    Behind (constant_declaration p c) (λ q g. InConstants q cs g) f)

abbrev pub InTypeDeclarations : Place → List TypeDecl → Fault → Type 0
InTypeDeclarations p [] f = ⊥
InTypeDeclarations p (t ∷ ts) f =
    (announced p t.name ≡ Err f) ⊎
    (InType (behind_name p t.name) t.shape f ⊎
    Behind (type_declaration p t) (λ q g. InTypeDeclarations q ts g) f)

abbrev pub InVariables : Place → List ℕ → List NameList → Fault → Type 0
InVariables p vars [] f = ⊥
InVariables p vars (l ∷ ls) f =
    NamesFail p (out-NameList l).names f ⊎
    (InType (behind_names p (out-NameList l).names) (out-NameList l).shape f ⊎
    Behind (variable_list p vars l) (λ more g. InVariables more.0 more.1 ls g) f)

-- ---- parameters

abbrev pub InParameterType : Place → Section → Fault → Type 0
InParameterType p s f =
    InType p s.shape f ⊎
    Fails (type_expression s.shape p)
    (λ t. parameter_type s.by_var (out-TypeExpr s.shape).span.last t.1) f

abbrev pub InSections : Place → List Param → List Section → Fault → Type 0
InSections p params [] f = ⊥
InSections p params (s ∷ ss) f =
    NamesFail p s.names f ⊎
    (InParameterType (behind_names p s.names) s f ⊎
    Behind (section p params s) (λ more g. InSections more.0 more.1 ss g) f)

abbrev pub InHeading : Place → ℕ → List Section → Fault → Type 0
InHeading p name sections f =
    let q = behind_name p name in
    (announced p name ≡ Err f) ⊎
    InSections (entered q (length q.headings) []) [] sections f

-- ---- the place behind declarations and behind a procedure, whatever its statements are

abbrev pub PlaceBehind : Type 0
PlaceBehind = Place → Judged Place

abbrev pub all_behind : Place → List PlaceBehind → Judged Place
all_behind p [] = Ok p
all_behind p (proc ∷ procs) = do
  q ← proc p
  all_behind q procs

abbrev pub variables_behind : Place → List ConstDecl → List TypeDecl → List NameList →
    Judged (Place × List ℕ)
variables_behind p consts types vars = do
  q ← all_constants p consts
  r ← all_type_declarations q types
  all_variables r [] vars

abbrev pub behind_step : Decls-F PlaceBehind PlaceBehind → PlaceBehind
behind_step d p = do
  vars ← variables_behind p d.consts d.types d.vars
  all_behind vars.0 d.procs

abbrev pub behind_proc_step : Proc-F PlaceBehind PlaceBehind → PlaceBehind
behind_proc_step proc p = do
  inside ← heading p proc.name proc.params
  q ← proc.decls inside.0
  Ok (with_nodes (left q p.here) (nodes_of q.tokens proc.body))

abbrev pub behind_declarations : Decls → PlaceBehind
behind_declarations = fold-Decls PlaceBehind PlaceBehind behind_step behind_proc_step

abbrev pub behind_procedure : Proc → PlaceBehind
behind_procedure = fold-Proc PlaceBehind PlaceBehind behind_step behind_proc_step

-- ---- procedures

mutual
  pub data InDeclarations : Place → Decls → Fault → Type 0 where
    constants : (p : Place) (d : Decls) (f : Fault) → InConstants p (out-Decls d).consts f →
        InDeclarations p d f
    types : (p : Place) (d : Decls) (f : Fault) →
        Behind (all_constants p (out-Decls d).consts)
        (λ q g. InTypeDeclarations q (out-Decls d).types g) f → InDeclarations p d f
    variables : (p : Place) (d : Decls) (f : Fault) →
        Behind (all_constants p (out-Decls d).consts >>=
        λ q. all_type_declarations q (out-Decls d).types)
        (λ q g. InVariables q [] (out-Decls d).vars g) f → InDeclarations p d f
    procedures : (p : Place) (d : Decls) (f : Fault) (q : Place × List ℕ) →
        variables_behind p (out-Decls d).consts (out-Decls d).types (out-Decls d).vars ≡ Ok q →
        InProcedures q.0 (out-Decls d).procs f → InDeclarations p d f

  pub data InProcedures : Place → List Proc → Fault → Type 0 where
    one : (p : Place) (x : Proc) (xs : List Proc) (f : Fault) → InProcedure p x f →
        InProcedures p (x ∷ xs) f
    others : (p : Place) (x : Proc) (xs : List Proc) (f : Fault) (q : Place) →
        behind_procedure x p ≡ Ok q → InProcedures q xs f → InProcedures p (x ∷ xs) f

  pub data InProcedure : Place → Proc → Fault → Type 0 where
    in_heading : (p : Place) (x : Proc) (f : Fault) →
        InHeading p (out-Proc x).name (out-Proc x).params f → InProcedure p x f
    inside : (p : Place) (x : Proc) (f : Fault) (q : Place × List Param) →
        heading p (out-Proc x).name (out-Proc x).params ≡ Ok q →
        InDeclarations q.0 (out-Proc x).decls f → InProcedure p x f
    body : (p : Place) (x : Proc) (f : Fault) →
        Behind (heading p (out-Proc x).name (out-Proc x).params >>=
        λ q. behind_declarations (out-Proc x).decls q.0)
        (λ q g. AnyOf (λ s h. InStatement q s h) (out-Proc x).body g) f → InProcedure p x f
    close : (p : Place) (x : Proc) (f : Fault) →
        Behind (heading p (out-Proc x).name (out-Proc x).params >>=
        λ q. behind_declarations (out-Proc x).decls q.0)
        (λ q g. closed 2 q (out-Proc x).name (out-Proc x).close ≡ Err g) f →
        InProcedure p x f
