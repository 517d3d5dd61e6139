-- A module with each kind of variable, and with statements that lend them:
--
--     VAR x: INTEGER; q: ARRAY 3 OF RECORD a, b: INTEGER END;
--     PROCEDURE P(VAR p: INTEGER; n, m: INTEGER);
--     VAR t: INTEGER; r: RECORD a, b: INTEGER END; u: INTEGER;
--     BEGIN P(m, n, 5); WHILE n < t DO P(u, t, p) END; Read(r.a) END P;
--     BEGIN P(q[1].b, 5, 6) END M.
use Rattle.std.specs.Prelude.{ℕ, pos, [], ◌∷◌}
use Rattle.ob_syntax.specs.Expressions.{integer, variable}
use Rattle.ob_syntax.specs.declared.checked.Checked.{Checked}
use Rattle.ob_syntax.specs.declared.checked.CheckedProc.{CheckedProc}
use Rattle.ob_syntax.specs.declared.checked.RArg.{RArg}
use Rattle.ob_syntax.specs.declared.checked.RArg.TheVariants.{Value, Lent}
use Rattle.ob_syntax.specs.declared.checked.RExpr.{RExpr}
use Rattle.ob_syntax.specs.declared.checked.RExpr.TheVariants as x
use Rattle.ob_syntax.specs.declared.checked.ROp.TheVariants.{Less}
use Rattle.ob_syntax.specs.declared.checked.RStep.TheVariants as step
use Rattle.ob_syntax.specs.declared.checked.RStmt.{RStmt}
use Rattle.ob_syntax.specs.declared.checked.RStmt.TheVariants as s
use Rattle.ob_syntax.specs.declared.checked.RVar.{RVar}
use Rattle.ob_syntax.specs.declared.checked.Root.{Root}
use Rattle.ob_syntax.specs.declared.checked.Root.TheVariants.{Module, Param, Local}
use Rattle.vc_relation.specs.Sample as laid

-- an INTEGER without selectors
abbrev pub whole : Root → RVar
whole root = variable root ([], integer)

abbrev pub number : ℕ → RExpr
number n = x.Number (pos n)

abbrev pub call : RArg → RExpr → RExpr → RStmt
call p n m = s.Call (record { 0 = 1 }) (p ∷ Value n ∷ Value m ∷ [])

-- q[1].b
abbrev pub element : RVar
element = variable (Module 1) (step.Index (number 1) ∷ step.Field 1 ∷ [], integer)

-- r.a
abbrev pub part : RVar
part = variable (Local 1) (step.Field 0 ∷ [], integer)

abbrev pub test : RExpr
test = x.Binary Less (x.Var (whole (Param 1))) (x.Var (whole (Local 0)))

abbrev pub first_call : RStmt
first_call = call (Lent (whole (Param 2))) (x.Var (whole (Param 1))) (number 5)

abbrev pub inner_call : RStmt
inner_call = call (Lent (whole (Local 2))) (x.Var (whole (Local 0))) (x.Var (whole (Param 0)))

abbrev pub outer_call : RStmt
outer_call = call (Lent element) (number 5) (number 6)

-- P, q, [, 1, ., b, 5, 6
abbrev pub body : CheckedProc
body = record (laid.procedure 0 [] [] 0) { body = outer_call ∷ []; nodes = 8 }

-- P, m, n, 5, WHILE, n, <, t, P, u, t, p, Read, r, ., a
abbrev pub called : CheckedProc
called =
    record laid.called {
      body = first_call ∷ s.While test (inner_call ∷ []) ∷ s.Read part ∷ [];
      nodes = 16;
    }

abbrev pub sample : Checked
sample = record laid.sample { procs = body ∷ called ∷ [] }
