-- All procedures of a module together have at most as many nodes and scalar locals as the source
-- has
-- tokens.
use Rattle.std.proofs.Common.{◌≡◌, ℕ, ◌+◌, ◌≤◌, List, [], ◌∷◌, length, map, refl, ap, sym, subst}
use Rattle.std.proofs.Common.{arith}
use Rattle.std.specs.List.{sum_by}
use Rattle.std.proofs.lemmas.List.Sums.{sum_by-cons, count_by-le-length}
use Rattle.ob_syntax.specs.declared.checked.CheckedProc.{CheckedProc}
use Rattle.ob_syntax.specs.declared.checked.Draft.{Draft}
use Rattle.ob_syntax.specs.declared.checked.Root.{Root}
use Rattle.ob_syntax.specs.declared.checked.Shape.{Shape}
use Rattle.ob_syntax.specs.declared.token.Token.{Token}
use Rattle.ob_syntax.specs.declared.tree.Module.{Module}
use Rattle.ob_syntax.specs.declared.tree.Stmt.{Stmt}
use Rattle.ob_syntax.specs.Declarations.{Reading}
use Rattle.ob_syntax.specs.Derives.{text}
use Rattle.ob_syntax.specs.Grammar as grammar
use Rattle.ob_syntax.specs.Names.{Place}
use Rattle.ob_syntax.specs.Source.{IsParsed}
use Rattle.ob_syntax.specs.WellFormed.{is_scalar, lent_in_body, local_words, locals_from}
use Rattle.ob_syntax.specs.WellFormed.{IsWellFormed, checked_proc, resolved}
use Rattle.ob_syntax.specs.Whole.{kinds}
use Rattle.vc_typed.specs.TypedModules.{scalar_locals}
use Rattle.vc_typed.proofs.ProcedureTrees.{reading_read}
use Rattle.vc_typed.proofs.TreeBodies.{bodies_in, ReadFrom}
use Rattle.vc_checked.specs.Short.{nodes_and_locals, IsShort}
use Rattle.vc_checked.proofs.ReadVariables.{variables, reading_count}
use Rattle.vc_checked.proofs.Totals.{added, names_in}
use Rattle.vc_checked.proofs.TreeTokens.{bodies_nodes, module_weighs}

-- ---- procedures

locals_length : (shapes : List Shape) (lent : List Root) (number word : ℕ) (vars : List ℕ) →
    length (locals_from shapes lent number word vars) ≡ length vars
locals_length shapes lent number word [] = refl
locals_length shapes lent number word (x ∷ vars) =
    let rest = locals_length shapes lent (number + 1) (word + local_words shapes lent number x)
    vars in omega (arith, rest)

few_locals : (p : Place) (d : Draft) → scalar_locals (checked_proc p d) ≤ length d.vars
few_locals p d =
    let few = count_by-le-length (λ l. is_scalar l.type_id)
    (locals_from p.types (lent_in_body d) 0 0 d.vars) in
    let same = locals_length p.types (lent_in_body d) 0 0 d.vars in omega (arith, few, same)

procs_few : (p : Place) (ds : List Draft) → sum_by (λ (q : CheckedProc). q.nodes + scalar_locals q)
    (map (checked_proc p) ds) ≤ added (map (λ d. d.nodes) ds) + variables ds
procs_few p [] = omega arith
procs_few p (d ∷ ds) =
    let first = sum_by-cons (λ (q : CheckedProc). q.nodes + scalar_locals q) (checked_proc p d)
    (map (checked_proc p) ds) in
    let rest = procs_few p ds in
    let few = few_locals p d in omega (arith, first, rest, few)

nodes_same : (tokens : List Token) (bs : List (List Stmt)) (ds : List Draft) →
    ReadFrom tokens bs ds → added (map (λ d. d.nodes) ds) ≡ bodies_nodes tokens bs
nodes_same tokens [] [] read = refl
nodes_same tokens [] (d ∷ ds) read = absurd read
nodes_same tokens (b ∷ bs) [] read = absurd read
nodes_same tokens (b ∷ bs) (d ∷ ds) (one, rest) =
    let first = one.nodes in
    let more = nodes_same tokens bs ds rest in omega (arith, first, more)

-- ---- modules

length_kinds : (ts : List Token) → length (kinds ts) ≡ length ts
length_kinds [] = refl
length_kinds (t ∷ ts) = let rest = length_kinds ts in omega (arith, rest)

pub module_few : (bytes : List ℕ) (tokens : List Token) (m : Module) (r : Reading) →
    IsParsed bytes tokens m → IsWellFormed bytes tokens m r → nodes_and_locals (resolved m r) ≤
    length tokens
module_few bytes tokens m r parsed is =
    let of = parsed.parsed in
    let tree = subst (λ (t : Module). bodies_nodes tokens (t.body ∷ bodies_in t.decls) + names_in
    t.decls ≤ length (text grammar.Module of.0)) (sym of.3) (module_weighs tokens of.0) in
    let all = ap length of.1 in
    let count = length_kinds tokens in
    let procs = procs_few r.place r.procs in
    let nodes = nodes_same tokens (m.body ∷ bodies_in m.decls) r.procs
    (reading_read bytes tokens m r is) in
    let vars = reading_count bytes tokens m r is in
    omega (arith, tree, all, count, procs, nodes, vars)

pub module_short : (bytes : List ℕ) (tokens : List Token) (m : Module) (r : Reading) →
    IsParsed bytes tokens m → IsWellFormed bytes tokens m r → IsShort (resolved m r)
module_short bytes tokens m r parsed is =
    let few : length tokens ≤ 65536 = parsed.scanned.few in
    let all = module_few bytes tokens m r parsed is in omega (arith, few, all)
