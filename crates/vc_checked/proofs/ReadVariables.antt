-- What is read of a module has as many variables as its tree has names of variables.
use Rattle.std.proofs.Common.{◌≡◌, ℕ, ◌+◌, List, [], ◌∷◌, ◌++◌, length, map, ap, sym, ◌∙◌, subst}
use Rattle.std.proofs.Common.{arith, length-append}
use Rattle.std.specs.Prelude.{Ok}
use Rattle.pra_list.proofs.Results.{came_of}
use Rattle.pra_list.specs.Results.{◌>>=◌}
use Rattle.ob_syntax.specs.declared.checked.Draft.{Draft}
use Rattle.ob_syntax.specs.declared.checked.Meaning.TheVariants.{Variable}
use Rattle.ob_syntax.specs.declared.checked.Param.{Param}
use Rattle.ob_syntax.specs.declared.checked.RStmt.{RStmt}
use Rattle.ob_syntax.specs.declared.token.Token.{Token}
use Rattle.ob_syntax.specs.declared.tree.ConstDecl.{ConstDecl}
use Rattle.ob_syntax.specs.declared.tree.Decls.{Decls, Decls-F, roll-Decls, fold-roll-Decls}
use Rattle.ob_syntax.specs.declared.tree.Decls.{ind-Decls}
use Rattle.ob_syntax.specs.declared.tree.Module.{Module}
use Rattle.ob_syntax.specs.declared.tree.NameList.{NameList, out-NameList}
use Rattle.ob_syntax.specs.declared.tree.Proc.{Proc, Proc-F, roll-Proc, fold-roll-Proc}
use Rattle.ob_syntax.specs.declared.tree.Section.{Section}
use Rattle.ob_syntax.specs.declared.tree.Span.{Span}
use Rattle.ob_syntax.specs.declared.tree.Stmt.{Stmt}
use Rattle.ob_syntax.specs.declared.tree.TypeDecl.{TypeDecl}
use Rattle.ob_syntax.specs.Declarations.{all_announced, own_root, shown, with_variables}
use Rattle.ob_syntax.specs.Declarations.{variable_list, all_constants, all_type_declarations}
use Rattle.ob_syntax.specs.Declarations.{all_variables, left, nodes_of, with_nodes, Declared}
use Rattle.ob_syntax.specs.Declarations.{ProcResult, DeclsResult, all_procedures, decls_step}
use Rattle.ob_syntax.specs.Declarations.{closed, drafted, heading, proc_step, declarations}
use Rattle.ob_syntax.specs.Declarations.{procedure, beginning, Reading, reading}
use Rattle.ob_syntax.specs.Names.{Place}
use Rattle.ob_syntax.specs.Statements.{each, statement}
use Rattle.ob_syntax.specs.Types.{type_expression}
use Rattle.vc_typed.proofs.Bindings.{ok_same}
use Rattle.vc_checked.proofs.Totals.{added, names_in_lists, decls_names, proc_names, names_in}
use Rattle.vc_checked.proofs.Totals.{names_of}

-- ---- lists of variables

with_variables_count : (p : Place) (vars : List ℕ) (type_id : ℕ) (ks : List ℕ) →
    length (with_variables p vars type_id ks).1 ≡ length vars + length ks
with_variables_count p vars type_id [] = omega arith
with_variables_count p vars type_id (k ∷ ks) =
    let rest = with_variables_count
    (shown p k (Variable p.here (own_root p.here (length vars)) type_id)) (vars ++ type_id ∷ [])
    type_id ks in
    let one = length-append vars (type_id ∷ []) in omega (arith, rest, one)

list_count : (p : Place) (vars : List ℕ) (l : NameList) (r : Place × List ℕ) →
    variable_list p vars l ≡ Ok r → length r.1 ≡ length vars + length (out-NameList l).names
list_count p vars l r is =
    let names = (out-NameList l).names in
    let one = came_of (all_announced p names)
    (λ q. type_expression (out-NameList l).shape q >>= λ shape. Ok
    (with_variables shape.0 vars shape.1 names)) r is in
    let two = came_of (type_expression (out-NameList l).shape one.0)
    (λ shape. Ok (with_variables shape.0 vars shape.1 names)) r one.2 in
    sym (ap (λ (z : Place × List ℕ). length z.1)
    (ok_same (with_variables two.0.0 vars two.0.1 names) r two.2))
    ∙ with_variables_count two.0.0 vars two.0.1 names

variables_count : (p : Place) (vars : List ℕ) (ls : List NameList) (r : Place × List ℕ) →
    all_variables p vars ls ≡ Ok r → length r.1 ≡ length vars + names_in_lists ls
variables_count p vars [] r is = let same = ap (λ (z : Place × List ℕ). length z.1)
    (ok_same (p, vars) r is) in omega (arith, same)
variables_count p vars (l ∷ ls) r is =
    let of = came_of (variable_list p vars l) (λ more. all_variables more.0 more.1 ls) r is in
    let one = list_count p vars l of.0 of.1 in
    let rest = variables_count of.0.0 of.0.1 ls r of.2 in omega (arith, one, rest)

-- ---- procedures

-- the variables of procedures
abbrev pub variables : List Draft → ℕ
variables ds = added (map (λ d. length d.vars) ds)

variables_append : (xs ys : List Draft) → variables (xs ++ ys) ≡ variables xs + variables ys
variables_append [] ys = omega arith
variables_append (x ∷ xs) ys = let rest = variables_append xs ys in omega (arith, rest)

record CountsProc (n : ℕ) (f : ProcResult) : Type 0 where
  gives : (p : Place) (r : Place × List Draft) → f p ≡ Ok r → variables r.1 ≡ n

record CountsDecls (n : ℕ) (f : DeclsResult) : Type 0 where
  gives : (p : Place) (d : Declared) → f p ≡ Ok d → length d.vars + variables d.procs ≡ n

abbrev AllCount : List ℕ → List ProcResult → Type 0
AllCount [] [] = Unit {0}
AllCount (n ∷ ns) (f ∷ fs) = CountsProc n f × AllCount ns fs
AllCount _ _ = ⊥

procedures_count : (ns : List ℕ) (fs : List ProcResult) → AllCount ns fs →
    (p : Place) (done : List Draft) (r : Place × List Draft) → all_procedures p done fs ≡ Ok r →
    variables r.1 ≡ variables done + added ns
procedures_count [] [] all p done r is = let same = ap (λ (z : Place × List Draft). variables z.1)
    (ok_same (p, done) r is) in omega (arith, same)
procedures_count [] (f ∷ fs) all p done r is = absurd all
procedures_count (n ∷ ns) [] all p done r is = absurd all
procedures_count (n ∷ ns) (f ∷ fs) (one, rest) p done r is =
    let of = came_of (f p) (λ more. all_procedures more.0 (done ++ more.1) fs) r is in
    let first = one.gives p of.0 of.1 in
    let more = procedures_count ns fs rest of.0.0 (done ++ of.0.1) r of.2 in
    let both = variables_append done of.0.1 in omega (arith, first, more, both)

-- ---- declarations and a procedure

abbrev declared : List ℕ → Place × List Draft → Declared
declared vars procs = record { place = procs.0; vars = vars; procs = procs.1 }

decls_count : (cs : List ConstDecl) (ts : List TypeDecl) (vs : List NameList) (ns : List ℕ)
    (fs : List ProcResult) → AllCount ns fs → (p : Place) (d : Declared)
    → (all_constants p cs >>= λ constants. all_type_declarations constants ts >>= λ types.
    all_variables types [] vs >>= λ vars. all_procedures vars.0 [] fs >>= λ procs. Ok
    (declared vars.1 procs)) ≡ Ok d
    → length d.vars + variables d.procs ≡ names_in_lists vs + added ns
decls_count cs ts vs ns fs all p d is =
    let one = came_of (all_constants p cs)
    (λ constants. all_type_declarations constants ts >>= λ types. all_variables types
    [] vs >>= λ vars. all_procedures vars.0 [] fs >>= λ procs. Ok (declared vars.1 procs)) d
    is in
    let two = came_of (all_type_declarations one.0 ts)
    (λ types. all_variables types [] vs >>= λ vars. all_procedures vars.0 [] fs >>= λ procs. Ok
    (declared vars.1 procs)) d one.2 in
    let three = came_of (all_variables two.0 [] vs)
    (λ vars. all_procedures vars.0 [] fs >>= λ procs. Ok (declared vars.1 procs)) d two.2 in
    let four = came_of (all_procedures three.0.0 [] fs) (λ procs. Ok (declared three.0.1 procs)) d
    three.2 in
    let vars = variables_count two.0 [] vs three.0 three.1 in
    let procs = procedures_count ns fs all three.0.0 [] four.0 four.1 in
    subst (λ (z : Declared). length z.vars + variables z.procs ≡ names_in_lists vs + added ns)
    (ok_same (declared three.0.1 four.0) d four.2) (omega (arith, vars, procs))

abbrev proc_read : ℕ → List Stmt → ℕ → Place × List Param → Declared → List RStmt → Place → Place ×
    List Draft
proc_read name body here inside d done end = (
  with_nodes (left end here) (nodes_of end.tokens body),
  drafted end.here name inside.1 d.vars (nodes_of end.tokens body) done ∷ d.procs,
)

proc_count : (name close : ℕ) (ss : List Section) (n : ℕ) (f : DeclsResult) → CountsDecls n f →
    (body : List Stmt) → (p : Place) (r : Place × List Draft)
    → (heading p name ss >>= λ inside. f inside.0 >>= λ d. each d.place [] (map statement body) >>=
    λ done. closed 2 d.place name close >>= λ end.
    Ok (proc_read name body p.here inside d done end)) ≡ Ok r → variables r.1 ≡ n
proc_count name close ss n f counts body p r is =
    let result = proc_read name body p.here in
    let one = came_of (heading p name ss)
    (λ inside. f inside.0 >>= λ d. each d.place [] (map statement body) >>= λ done. closed 2
    d.place name close >>= λ end. Ok (result inside d done end)) r is in
    let two = came_of (f one.0.0)
    (λ d. each d.place [] (map statement body) >>= λ done. closed 2 d.place name close >>=
    λ end. Ok (result one.0 d done end)) r one.2 in
    let three = came_of (each two.0.place [] (map statement body))
    (λ done. closed 2 two.0.place name close >>= λ end. Ok (result one.0 two.0 done end)) r
    two.2 in
    let four = came_of (closed 2 two.0.place name close)
    (λ end. Ok (result one.0 two.0 three.0 end)) r three.2 in
    subst (λ (z : Place × List Draft). variables z.1 ≡ n)
    (ok_same (result one.0 two.0 three.0 four.0) r four.2) (counts.gives one.0.0 two.0 two.1)

-- ---- trees

abbrev OfDecls : Decls → Type 0
OfDecls x = CountsDecls (names_in x) (declarations x)

abbrev OfProc : Proc → Type 0
OfProc x = CountsProc (names_of x) (procedure x)

procs_all : (xs : List ((x : Proc) × OfProc x)) → AllCount (map names_of (map (λ x. x.0) xs))
    (map procedure (map (λ x. x.0) xs))
procs_all [] = tt
procs_all (x ∷ xs) = (x.1, procs_all xs)

decls_from : (x : Decls) (n : ℕ) (f : DeclsResult) → names_in x ≡ n → declarations x ≡ f →
    CountsDecls n f → OfDecls x
decls_from x n f names is counts = subst (λ k. CountsDecls k (declarations x)) (sym names)
    (subst (CountsDecls n) (sym is) counts)

proc_from : (x : Proc) (n : ℕ) (f : ProcResult) → names_of x ≡ n → procedure x ≡ f →
    CountsProc n f → OfProc x
proc_from x n f names is counts = subst (λ k. CountsProc k (procedure x)) (sym names)
    (subst (CountsProc n) (sym is) counts)

decls_case : (cs : List ConstDecl) (ts : List TypeDecl) (vs : List NameList)
    (xs : List ((x : Proc) × OfProc x)) →
    OfDecls (roll-Decls (record { consts = cs; types = ts; vars = vs; procs = map (λ x. x.0) xs }))
decls_case cs ts vs xs =
    let procs = map (λ x. x.0) xs in
    let y : Decls-F Decls Proc = record { consts = cs; types = ts; vars = vs; procs = procs } in
    decls_from (roll-Decls y) _ _ (fold-roll-Decls ℕ ℕ decls_names proc_names y)
    (fold-roll-Decls DeclsResult ProcResult decls_step proc_step y)
    (record {
      gives = λ p d is. decls_count cs ts vs (map names_of procs) (map procedure procs)
          (procs_all xs) p d is;
    })

proc_case : (span : Span) (name close : ℕ) (ss : List Section) (x : (x : Decls) × OfDecls x)
    (body : List Stmt) → OfProc
    (roll-Proc (record {
      span = span;
      name = name;
      params = ss;
      decls = x.0;
      body = body;
      close =
          close;
    }))
proc_case span name close ss x body =
    let y : Proc-F Decls Proc =
    record { span = span; name = name; params = ss; decls = x.0; body = body; close = close } in
    proc_from (roll-Proc y) _ _ (fold-roll-Proc ℕ ℕ decls_names proc_names y)
    (fold-roll-Proc DeclsResult ProcResult decls_step proc_step y)
    (record {
      gives = λ p r is. proc_count name close ss (names_in x.0) (declarations x.0) x.1 body
          p r is;
    })

declarations_count : (x : Decls) → OfDecls x
declarations_count = ind-Decls OfDecls OfProc
    (λ x y is. subst (λ z. OfDecls (roll-Decls z)) is (decls_case y.consts y.types y.vars y.procs))
    (λ x y is. subst (λ z. OfProc (roll-Proc z)) is
    (proc_case y.span y.name y.close y.params y.decls y.body))

-- ---- modules

-- the variables of the module, and those of its procedures
pub reading_count : (bytes : List ℕ) (tokens : List Token) (m : Module) (r : Reading) →
    reading bytes tokens m ≡ Ok r → length r.vars + variables r.procs ≡ names_in m.decls
reading_count bytes tokens m r is =
    let result : Declared → List RStmt → Place → Reading =
    λ d done end. record {
      place = with_nodes end (nodes_of tokens m.body);
      vars = d.vars;
      procs = drafted 0 m.name [] [] (nodes_of tokens m.body) done ∷ d.procs;
    } in
    let begin = beginning bytes tokens in
    let one = came_of (declarations m.decls begin)
    (λ d. each d.place [] (map statement m.body) >>= λ done. closed 1 d.place m.name m.close >>=
    λ end. Ok (result d done end)) r is in
    let two = came_of (each one.0.place [] (map statement m.body))
    (λ done. closed 1 one.0.place m.name m.close >>= λ end. Ok (result one.0 done end)) r
    one.2 in
    let three = came_of (closed 1 one.0.place m.name m.close) (λ end. Ok (result one.0 two.0 end)) r
    two.2 in
    let all = (declarations_count m.decls).gives begin one.0 one.1 in
    subst (λ (z : Reading). length z.vars + variables z.procs ≡ names_in m.decls)
    (ok_same (result one.0 two.0 three.0) r three.2) (omega (arith, all))
