-- What declarations and a procedure are read as, from what their parts are read as.
use Rattle.std.proofs.Common.{◌≡◌, ℕ, ◌<◌, List, [], ◌∷◌, ◌++◌, length, get_or, map, drop, Ok, Err}
use Rattle.std.proofs.Common.{refl, ap, ◌∙◌, drop-cons, append_assoc}
use Rattle.std.proofs.Math.Seq.{set-append_seam}
use Rattle.std.specs.Prelude.{slice_set}
use Rattle.ob_syntax.specs.declared.checked.Draft.{Draft}
use Rattle.ob_syntax.specs.declared.checked.Param.{Param}
use Rattle.ob_syntax.specs.declared.checked.RStmt.{RStmt}
use Rattle.ob_syntax.specs.declared.tree.Decls.{Decls, out-Decls, fold_out-Decls}
use Rattle.ob_syntax.specs.declared.tree.Proc.{Proc, out-Proc, fold_out-Proc}
use Rattle.ob_syntax.specs.Declarations.{DeclsResult, ProcResult, Declared, all_constants}
use Rattle.ob_syntax.specs.Declarations.{all_type_declarations, all_variables, all_procedures}
use Rattle.ob_syntax.specs.Declarations.{closed, decls_step, declarations, drafted, heading, left}
use Rattle.ob_syntax.specs.Declarations.{nodes_of, proc_step, procedure, with_nodes}
use Rattle.ob_syntax.specs.Names.{Fault, Judged, Place}
use Rattle.ob_syntax.specs.Statements.{each, statement}
use Rattle.pra_list.specs.Results.{◌>>=◌}

-- the constants, types and variables of declarations are read, and these are the procedures
pub record AreRead (d : Decls) (p s : Place) (vars : List ℕ) (procs : List Proc) : Type 0 where
  pub q : Place
  pub r : Place
  pub constants : all_constants p (out-Decls d).consts ≡ Ok q
  pub types : all_type_declarations q (out-Decls d).types ≡ Ok r
  pub variables : all_variables r [] (out-Decls d).vars ≡ Ok (s, vars)
  pub procs_are : procs ≡ (out-Decls d).procs

-- and of the procedures, those from this number on are left, behind these drafts
pub record IsLeft (s t : Place) (procs : List Proc) (done : List Draft) (i : ℕ) : Type 0 where
  pub same :
      all_procedures t done (map procedure (drop i procs)) ≡
      all_procedures s [] (map procedure procs)

with_procedures : List ℕ → Judged (Place × List Draft) → Judged Declared
with_procedures vars procs =
    procs >>= λ done. Ok (record { place = done.0; vars = vars; procs = done.1 })

behind : (d : Decls) (p s : Place) (vars : List ℕ) (procs : List Proc)
    → AreRead d p s vars procs
    → declarations d p ≡ with_procedures vars (all_procedures s [] (map procedure procs))
unfolding with_procedures
behind d p s vars procs a =
    ap (λ f. f p) (fold_out-Decls DeclsResult ProcResult decls_step proc_step d)
    ∙ rw (a.constants, a.types, a.variables, a.procs_are) refl

pub finished : (d : Decls) (p s t : Place) (vars : List ℕ) (procs : List Proc)
    (done : List Draft) (i : ℕ) → AreRead d p s vars procs → IsLeft s t procs done i
    → drop i procs ≡ [] → declarations d p ≡ Ok (record { place = t; vars = vars; procs = done })
unfolding with_procedures
finished d p s t vars procs done i a l none =
    behind d p s vars procs a ∙ rw (← l.same, none) refl

pub refused : (d : Decls) (p s t : Place) (vars : List ℕ) (procs : List Proc)
    (done : List Draft) (i : ℕ) (x : Proc) (f : Fault) → AreRead d p s vars procs
    → IsLeft s t procs done i → i < length procs → x ≡ get_or procs i x → procedure x t ≡ Err f
    → declarations d p ≡ Err f
unfolding with_procedures
refused d p s t vars procs done i x f a l h x_is wrong =
    behind d p s vars procs a ∙ rw (← l.same, drop-cons procs i x, ← x_is, wrong) refl

pub procedure_is : (x : Proc) (p h d : Place) (params : List Param) (vars : List ℕ)
    (more : List Draft) (body : List RStmt) (n : ℕ)
    → heading p (out-Proc x).name (out-Proc x).params ≡ Ok (h, params)
    → declarations (out-Proc x).decls h ≡ Ok (record { place = d; vars = vars; procs = more })
    → each d [] (map statement (out-Proc x).body) ≡ Ok body
    → closed 2 d (out-Proc x).name (out-Proc x).close ≡ Ok d
    → nodes_of d.tokens (out-Proc x).body ≡ n
    → procedure x p ≡ Ok (
      with_nodes (left d p.here) n,
      drafted d.here (out-Proc x).name params vars n body ∷ more,
    )
procedure_is x p h d params vars more body n a b c e f =
    ap (λ g. g p) (fold_out-Proc DeclsResult ProcResult decls_step proc_step x)
    ∙ rw (a, b, c, e, f) refl

-- a procedure's draft in the place that was kept for it, behind those before and in front of those
-- that it declares
pub in_its_place : (before kept all more : List Draft) (first own : Draft) (number : ℕ)
    → number ≡ length before → kept ≡ before ++ first ∷ [] → all ≡ kept ++ more
    → slice_set all number own ≡ before ++ own ∷ more
in_its_place before kept all more first own number n k a =
    rw (n, a, k, append_assoc, set-append_seam) refl

pub noted : (k l : Place) (nodes : List ℕ) (n : ℕ) → k ≡ l → nodes ≡ k.nodes ++ n ∷ []
    → record k { nodes = nodes } ≡ with_nodes l n
noted k l nodes n h e = rw e (ap (λ p. with_nodes p n) h)
