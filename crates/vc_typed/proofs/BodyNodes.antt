-- Each body of a checked module has at most the nodes of its procedure.
use Rattle.std.proofs.Common.{◌≡◌, ℕ, zero, suc, ◌≤◌, List, [], ◌∷◌, map, Some, refl, sym, subst}
use Rattle.std.proofs.Common.{arith}
use Rattle.std.specs.Prelude.{slice_get, sum}
use Rattle.pra_list.proofs.Options.{some_same, none_some}
use Rattle.ob_syntax.specs.declared.checked.CheckedProc.{CheckedProc}
use Rattle.ob_syntax.specs.declared.checked.Draft.{Draft}
use Rattle.ob_syntax.specs.declared.token.Token.{Token}
use Rattle.ob_syntax.specs.declared.tree.Module.{Module}
use Rattle.ob_syntax.specs.declared.tree.Stmt.{Stmt}
use Rattle.ob_syntax.specs.Declarations.{Reading, nodes_of}
use Rattle.ob_syntax.specs.Source.{IsParsed}
use Rattle.ob_syntax.specs.Statements.{statement}
use Rattle.ob_syntax.specs.WellFormed.{IsWellFormed, resolved}
use Rattle.vc_typed.specs.Nodes.{nodes_in_stmt, nodes_in_all, HaveTheirNodes}
use Rattle.vc_typed.proofs.Limited.{draft_of}
use Rattle.vc_typed.proofs.ProcedureTrees.{reading_read}
use Rattle.vc_typed.proofs.StatementNodes.{stmts_nodes}
use Rattle.vc_typed.proofs.TreeBodies.{bodies_in, ReadFrom}
use Rattle.vc_typed.proofs.TreeNodes.{AllStand, module_stands}

body_nodes : (tokens : List Token) (bs : List (List Stmt)) (ds : List Draft) → AllStand tokens bs →
    ReadFrom tokens bs ds → (k : ℕ) (d : Draft) → slice_get ds k ≡ Some d → nodes_in_all d.body ≤
    d.nodes
body_nodes tokens [] [] all read k d at = absurd (none_some at)
body_nodes tokens [] (x ∷ ds) all read k d at = absurd read
body_nodes tokens (b ∷ bs) [] all read k d at = absurd read
body_nodes tokens (b ∷ bs) (x ∷ ds) (stands, all) (one, rest) zero d at =
    let few = stmts_nodes one.place (map statement b) (nodes_of tokens b) [] x.body stands
    one.read in
    let none : sum (map nodes_in_stmt []) ≡ 0 = refl in
    let nodes = one.nodes in
    subst (λ (z : Draft). nodes_in_all z.body ≤ z.nodes) (some_same x d at)
    (omega (arith, few, none, nodes))
body_nodes tokens (b ∷ bs) (x ∷ ds) (stands, all) (one, rest) (suc k) d at =
    body_nodes tokens bs ds all rest k d at

pub module_nodes : (bytes : List ℕ) (tokens : List Token) (m : Module) (r : Reading) →
    IsParsed bytes tokens m → IsWellFormed bytes tokens m r → HaveTheirNodes (resolved m r)
module_nodes bytes tokens m r parsed is number proc at =
    let of = parsed.parsed in
    let stands = subst (λ (t : Module). AllStand tokens (t.body ∷ bodies_in t.decls)) (sym of.3)
    (module_stands tokens of.0 of.1) in
    let draft = draft_of r.place r.procs number proc at in
    subst (λ (z : CheckedProc). nodes_in_all z.body ≤ z.nodes) draft.2
    (body_nodes tokens (m.body ∷ bodies_in m.decls) r.procs stands
    (reading_read bytes tokens m r is) number draft.0 draft.1)
