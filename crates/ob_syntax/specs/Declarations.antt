-- The rules of declarations and of the module: which scopes they make, and what they are read as.
use Rattle.std.specs.Prelude.{ℕ, ◌+◌, ◌-◌, Bool, true, false, ◌||◌, List, [], ◌∷◌, ◌++◌, length}
use Rattle.std.specs.Prelude.{take, drop, map, count_by, Some, None, Ok, Err, bytes_eq, nat_eq}
use Rattle.std.specs.Prelude.{if◌then◌else◌}
use Rattle.ob_syntax.specs.declared.token.Kind.{Kind}
use Rattle.ob_syntax.specs.declared.token.Kind.TheVariants as kind
use Rattle.ob_syntax.specs.declared.token.Token.{Token}
use Rattle.ob_syntax.specs.declared.tree.ConstDecl.{ConstDecl}
use Rattle.ob_syntax.specs.declared.tree.Decls.{Decls, Decls-F, fold-Decls}
use Rattle.ob_syntax.specs.declared.tree.Module.{Module}
use Rattle.ob_syntax.specs.declared.tree.NameList.{NameList, out-NameList}
use Rattle.ob_syntax.specs.declared.tree.Proc.{Proc, Proc-F, fold-Proc}
use Rattle.ob_syntax.specs.declared.tree.Section.{Section}
use Rattle.ob_syntax.specs.declared.tree.Span.{Span}
use Rattle.ob_syntax.specs.declared.tree.Stmt.{Stmt, out-Stmt}
use Rattle.ob_syntax.specs.declared.tree.TypeDecl.{TypeDecl}
use Rattle.ob_syntax.specs.declared.tree.TypeExpr.{out-TypeExpr}
use Rattle.ob_syntax.specs.declared.checked.Draft.{Draft}
use Rattle.ob_syntax.specs.declared.checked.Meaning.{Meaning}
use Rattle.ob_syntax.specs.declared.checked.Meaning.TheVariants.{Constant, TypeName, Variable}
use Rattle.ob_syntax.specs.declared.checked.Meaning.TheVariants.{Procedure}
use Rattle.ob_syntax.specs.declared.checked.Param.{Param}
use Rattle.ob_syntax.specs.declared.checked.RStmt.{RStmt}
use Rattle.ob_syntax.specs.declared.checked.Root.{Root}
use Rattle.ob_syntax.specs.declared.checked.Root.TheVariants as root
use Rattle.ob_syntax.specs.declared.checked.Shape.TheVariants.{Integer, Boolean}
use Rattle.ob_syntax.specs.Expressions.{integer, boolean}
use Rattle.ob_syntax.specs.Names.{Judged, Place, Scope, name_at, is_declared, with_name}
use Rattle.pra_list.specs.Results.{◌>>=◌}
use Rattle.ob_syntax.specs.Statements.{each, statement}
use Rattle.ob_syntax.specs.Types.{constant, type_expression}

-- ---- a name is declared at its token, and visible from the end of its declaration on

-- rule 3: a name is declared twice in one scope; parameters and locals are one scope
abbrev pub announced : Place → ℕ → Judged Place
announced p k =
    if is_declared (name_at p k) p.scope then Err (3, k)
    else Ok (record p { scope = with_name (name_at p k) None p.scope })

abbrev pub all_announced : Place → List ℕ → Judged Place
all_announced p [] = Ok p
all_announced p (k ∷ ks) = do
  q ← announced p k
  all_announced q ks

abbrev pub shown : Place → ℕ → Meaning → Place
shown p k m = record p { scope = with_name (name_at p k) (Some m) p.scope }

-- ---- CONST, TYPE, VAR

abbrev pub constant_declaration : Place → ConstDecl → Judged Place
constant_declaration p c = do
  q ← announced p c.name
  v ← constant q c.value
  Ok (shown q c.name (Constant v))

abbrev pub all_constants : Place → List ConstDecl → Judged Place
all_constants p [] = Ok p
all_constants p (c ∷ cs) = do
  q ← constant_declaration p c
  all_constants q cs

abbrev pub type_declaration : Place → TypeDecl → Judged Place
type_declaration p t = do
  q ← announced p t.name
  shape ← type_expression t.shape q
  Ok (shown shape.0 t.name (TypeName shape.1))

abbrev pub all_type_declarations : Place → List TypeDecl → Judged Place
all_type_declarations p [] = Ok p
all_type_declarations p (t ∷ ts) = do
  q ← type_declaration p t
  all_type_declarations q ts

-- a variable of the module, or of the procedure here
abbrev pub own_root : ℕ → ℕ → Root
own_root here number = if nat_eq here 0 then root.Module number else root.Local number

-- the names show variables of this type, behind those whose types are vars
abbrev pub with_variables : Place → List ℕ → ℕ → List ℕ → Place × List ℕ
with_variables p vars type_id [] = (p, vars)
with_variables p vars type_id (k ∷ ks) =
    with_variables (shown p k (Variable p.here (own_root p.here (length vars)) type_id))
    (vars ++ type_id ∷ []) type_id ks

abbrev pub variable_list : Place → List ℕ → NameList → Judged (Place × List ℕ)
variable_list p vars list = do
  q ← all_announced p (out-NameList list).names
  shape ← type_expression (out-NameList list).shape q
  Ok (with_variables shape.0 vars shape.1 (out-NameList list).names)

abbrev pub all_variables : Place → List ℕ → List NameList → Judged (Place × List ℕ)
all_variables p vars [] = Ok (p, vars)
all_variables p vars (list ∷ lists) = do
  more ← variable_list p vars list
  all_variables more.0 more.1 lists

-- ---- parameters

-- rule 21: a value parameter's type is not INTEGER or BOOLEAN
abbrev pub parameter_type : Bool → ℕ → ℕ → Judged ℕ
parameter_type by_var token type_id =
    if by_var || (nat_eq type_id integer || nat_eq type_id boolean) then Ok type_id
    else Err (21, token)

abbrev pub with_parameters : Place → List Param → Bool → ℕ → List ℕ → Place × List Param
with_parameters p params by_var type_id [] = (p, params)
with_parameters p params by_var type_id (k ∷ ks) =
    with_parameters (shown p k (Variable p.here (root.Param (length params)) type_id))
    (params ++ record { by_var = by_var; type_id = type_id; addressed = false } ∷ [])
    by_var type_id ks

abbrev pub section : Place → List Param → Section → Judged (Place × List Param)
section p params s = do
  q ← all_announced p s.names
  shape ← type_expression s.shape q
  type_id ← parameter_type s.by_var (out-TypeExpr s.shape).span.last shape.1
  Ok (with_parameters shape.0 params s.by_var type_id s.names)

abbrev pub all_sections : Place → List Param → List Section → Judged (Place × List Param)
all_sections p params [] = Ok (p, params)
all_sections p params (s ∷ ss) = do
  more ← section p params s
  all_sections more.0 more.1 ss

-- ---- scopes

-- the place inside a procedure, with this scope of its own
abbrev pub entered : Place → ℕ → Scope → Place
entered p id scope = record p { here = id; scope = scope; outer = p.outer ++ p.scope ∷ [] }

-- the last of the scopes, and those in front of it
abbrev pub last_scope : List Scope → Scope × List Scope
last_scope [] = ([], [])
last_scope (s ∷ []) = (s, [])
last_scope (s ∷ t ∷ ss) = let r = last_scope (t ∷ ss) in (r.0, s ∷ r.1)

-- the place around, in the procedure of this number
abbrev pub left : Place → ℕ → Place
left p here =
    let r = last_scope p.outer in record p { here = here; scope = r.0; outer = r.1 }

-- the place with one more procedure, whose name is visible behind its heading
abbrev pub with_heading : Place → ℕ → List Param → Place
with_heading p name params =
    let q = shown p name (Procedure (length p.headings)) in
    record q { headings = q.headings ++ params ∷ [] }

-- ---- nodes

-- identifiers, numbers, operators, `:=`, `[`, `.`, IF, ELSIF, WHILE and REPEAT
abbrev pub is_node : Kind → Bool
is_node kind.Ident = true
is_node (kind.Number n) = true
is_node kind.KwDiv = true
is_node kind.KwElsif = true
is_node kind.KwIf = true
is_node kind.KwMod = true
is_node kind.KwOr = true
is_node kind.KwRepeat = true
is_node kind.KwWhile = true
is_node kind.Period = true
is_node kind.Becomes = true
is_node kind.LeftBracket = true
is_node kind.Tilde = true
is_node kind.Times = true
is_node kind.Amp = true
is_node kind.Plus = true
is_node kind.Minus = true
is_node kind.Equal = true
is_node kind.Unequal = true
is_node kind.Less = true
is_node kind.LessEqual = true
is_node kind.Greater = true
is_node kind.GreaterEqual = true
is_node _ = false

abbrev pub span_nodes : List Token → Span → ℕ
span_nodes tokens s =
    count_by (λ t. is_node t.kind) (take (s.last + 1 - s.first) (drop s.first tokens))

-- the nodes of a statement part, which has no nodes between its statements
abbrev pub nodes_of : List Token → List Stmt → ℕ
nodes_of tokens [] = 0
nodes_of tokens (s ∷ ss) = span_nodes tokens (out-Stmt s).span + nodes_of tokens ss

abbrev pub with_nodes : Place → ℕ → Place
with_nodes p n = record p { nodes = p.nodes ++ n ∷ [] }

-- ---- procedures and the module

-- the place behind declarations, the types of the variables that they declare, and the procedures
pub record Declared : Type 0 where
  pub place : Place
  pub vars : List ℕ
  pub procs : List Draft

abbrev pub ProcResult : Type 0
ProcResult = Place → Judged (Place × List Draft)

abbrev pub DeclsResult : Type 0
DeclsResult = Place → Judged Declared

abbrev pub all_procedures : Place → List Draft → List ProcResult → Judged (Place × List Draft)
all_procedures p done [] = Ok (p, done)
all_procedures p done (proc ∷ procs) = do
  more ← proc p
  all_procedures more.0 (done ++ more.1) procs

abbrev pub decls_step : Decls-F DeclsResult ProcResult → DeclsResult
decls_step d p = do
  constants ← all_constants p d.consts
  types ← all_type_declarations constants d.types
  vars ← all_variables types [] d.vars
  procs ← all_procedures vars.0 [] d.procs
  Ok (record { place = procs.0; vars = vars.1; procs = procs.1 })

-- rules 1 and 2: the name after END is not the name of the module or procedure
abbrev pub closed : ℕ → Place → ℕ → ℕ → Judged Place
closed rule p name close =
    if bytes_eq (name_at p close) (name_at p name) then Ok p else Err (rule, close)

abbrev pub drafted : ℕ → ℕ → List Param → List ℕ → ℕ → List RStmt → Draft
drafted id name params vars nodes body =
    record { id = id; name = name; params = params; vars = vars; nodes = nodes; body = body }

-- the place inside a procedure, behind its heading, and its parameters
abbrev pub heading : Place → ℕ → List Section → Judged (Place × List Param)
heading p name sections = do
  q ← announced p name
  inside ← all_sections (entered q (length q.headings) []) [] sections
  let outside = left inside.0 q.here in
      Ok (entered (with_heading outside name inside.1) (length q.headings) inside.0.scope, inside.1)

abbrev pub proc_step : Proc-F DeclsResult ProcResult → ProcResult
proc_step proc p = do
  inside ← heading p proc.name proc.params
  d ← proc.decls inside.0
  body ← each d.place [] (map statement proc.body)
  end ← closed 2 d.place proc.name proc.close
  let n = nodes_of end.tokens proc.body in
      Ok (
        with_nodes (left end p.here) n,
        drafted end.here proc.name inside.1 d.vars n body ∷ d.procs,
      )

abbrev pub declarations : Decls → DeclsResult
declarations = fold-Decls DeclsResult ProcResult decls_step proc_step

abbrev pub procedure : Proc → ProcResult
procedure = fold-Proc DeclsResult ProcResult decls_step proc_step

-- where a module begins
abbrev pub beginning : List ℕ → List Token → Place
beginning bytes tokens = record {
  bytes = bytes;
  tokens = tokens;
  here = 0;
  scope = [];
  outer = [];
  types = Integer ∷ Boolean ∷ [];
  fields = [] ∷ [] ∷ [];
  lengths = [];
  headings = [] ∷ [];
  nodes = [];
}

-- a module whose names are resolved: the place behind it, the types of its variables, its body and
-- then its procedures
pub record Reading : Type 0 where
  pub place : Place
  pub vars : List ℕ
  pub procs : List Draft

abbrev pub reading : List ℕ → List Token → Module → Judged Reading
reading bytes tokens m = do
  d ← declarations m.decls (beginning bytes tokens)
  body ← each d.place [] (map statement m.body)
  end ← closed 1 d.place m.name m.close
  let n = nodes_of tokens m.body in
      Ok (record {
        place = with_nodes end n;
        vars = d.vars;
        procs = drafted 0 m.name [] [] n body ∷ d.procs;
      })
