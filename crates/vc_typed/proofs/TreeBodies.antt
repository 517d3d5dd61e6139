-- The bodies in a tree, and what is read of each.
use Rattle.std.proofs.Common.{◌≡◌, List, [], ◌∷◌, ◌++◌, map}
use Rattle.std.specs.Prelude.{Ok}
use Rattle.ob_syntax.specs.declared.checked.Draft.{Draft}
use Rattle.ob_syntax.specs.declared.token.Token.{Token}
use Rattle.ob_syntax.specs.declared.tree.Decls.{Decls, Decls-F, fold-Decls}
use Rattle.ob_syntax.specs.declared.tree.Proc.{Proc, Proc-F, fold-Proc}
use Rattle.ob_syntax.specs.declared.tree.Stmt.{Stmt}
use Rattle.ob_syntax.specs.Declarations.{nodes_of}
use Rattle.ob_syntax.specs.Names.{Place}
use Rattle.ob_syntax.specs.Statements.{each, statement}
use Rattle.ob_syntax.specs.WellFormed.{joined}

-- of a procedure its own body, and then those of the procedures in it
abbrev pub decls_bodies : Decls-F (List (List Stmt)) (List (List Stmt)) → List (List Stmt)
decls_bodies d = joined d.procs

abbrev pub proc_bodies : Proc-F (List (List Stmt)) (List (List Stmt)) → List (List Stmt)
proc_bodies p = p.body ∷ p.decls

abbrev pub bodies_in : Decls → List (List Stmt)
bodies_in = fold-Decls (List (List Stmt)) (List (List Stmt)) decls_bodies proc_bodies

abbrev pub bodies_of : Proc → List (List Stmt)
bodies_of = fold-Proc (List (List Stmt)) (List (List Stmt)) decls_bodies proc_bodies

-- the body of a draft is read from the statements, and it has as many nodes as they have
pub record BodyRead (tokens : List Token) (body : List Stmt) (d : Draft) : Type 0 where
  pub place : Place
  pub read : each place [] (map statement body) ≡ Ok d.body
  pub nodes : d.nodes ≡ nodes_of tokens body

abbrev pub ReadFrom : List Token → List (List Stmt) → List Draft → Type 0
ReadFrom tokens [] [] = Unit {0}
ReadFrom tokens (b ∷ bs) (d ∷ ds) = BodyRead tokens b d × ReadFrom tokens bs ds
ReadFrom tokens _ _ = ⊥

pub read_append : (tokens : List Token) (bs cs : List (List Stmt)) (xs ys : List Draft) →
    ReadFrom tokens bs xs → ReadFrom tokens cs ys → ReadFrom tokens (bs ++ cs) (xs ++ ys)
read_append tokens [] cs [] ys all more = more
read_append tokens [] cs (x ∷ xs) ys all more = absurd all
read_append tokens (b ∷ bs) cs [] ys all more = absurd all
read_append tokens (b ∷ bs) cs (x ∷ xs) ys (one, rest) more =
    (one, read_append tokens bs cs xs ys rest more)
