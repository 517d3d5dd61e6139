-- The nodes of each form of resolved tree, as equations.
use Rattle.std.proofs.Common.{◌≡◌, ℕ, ◌+◌, ℤ, Bool, List, [], ◌∷◌, ◌++◌, map, ap, sym, ◌∙◌, arith}
use Rattle.std.specs.Prelude.{sum}
use Rattle.std.proofs.lemmas.List.Sums.{sum_by-cons}
use Rattle.pra_base.specs.declared.ids.ProcId.{ProcId}
use Rattle.ob_syntax.specs.declared.checked.ROp.{ROp}
use Rattle.ob_syntax.specs.declared.checked.RArg.{RArg}
use Rattle.ob_syntax.specs.declared.checked.RArm.{RArm, roll-RArm, fold-roll-RArm}
use Rattle.ob_syntax.specs.declared.checked.RExpr.{RExpr, RExpr-F, roll-RExpr, out-RExpr, map-RExpr}
use Rattle.ob_syntax.specs.declared.checked.RExpr.{fold-roll-RExpr, fold_out-RExpr}
use Rattle.ob_syntax.specs.declared.checked.RExpr.TheVariants as x
use Rattle.ob_syntax.specs.declared.checked.RStep.{RStep, RStep-F, roll-RStep, map-RStep}
use Rattle.ob_syntax.specs.declared.checked.RStep.{fold-roll-RStep}
use Rattle.ob_syntax.specs.declared.checked.RStep.TheVariants as step
use Rattle.ob_syntax.specs.declared.checked.RStmt.{RStmt, RStmt-F, roll-RStmt, map-RStmt}
use Rattle.ob_syntax.specs.declared.checked.RStmt.{fold-roll-RStmt}
use Rattle.ob_syntax.specs.declared.checked.RStmt.TheVariants as s
use Rattle.ob_syntax.specs.declared.checked.RVar.{RVar, roll-RVar, fold-roll-RVar}
use Rattle.ob_syntax.specs.declared.checked.Root.{Root}
use Rattle.vc_typed.specs.Nodes.{expr_nodes, step_nodes, var_nodes, nodes_in, nodes_in_step}
use Rattle.vc_typed.specs.Nodes.{nodes_in_var, arg_nodes, stmt_nodes, arm_nodes, nodes_in_stmt}
use Rattle.vc_typed.specs.Nodes.{nodes_in_arm, nodes_in_all}

-- ---- sums

pub sum-cons : (n : ℕ) (ns : List ℕ) → sum (n ∷ ns) ≡ n + sum ns
sum-cons n ns = sum_by-cons (λ n. n) n ns

pub sum-last : {A : Type 0} (f : A → ℕ) (xs : List A) (y : A) → sum (map f (xs ++ y ∷ [])) ≡
    sum (map f xs) + f y
sum-last f [] y = let one = sum-cons (f y) [] in omega (arith, one)
sum-last f (x ∷ xs) y = let rest = sum-last f xs y in
    omega (arith, rest, sum-cons (f x) (map f (xs ++ y ∷ [])), sum-cons (f x) (map f xs))

-- ---- expressions

expr_roll : (e : RExpr-F RExpr RStep RVar) → nodes_in (roll-RExpr e) ≡
    expr_nodes (map-RExpr RExpr RStep RVar ℕ ℕ ℕ nodes_in nodes_in_step nodes_in_var e)
expr_roll = fold-roll-RExpr ℕ ℕ ℕ expr_nodes step_nodes var_nodes

pub nodes-Number : (n : ℤ) → nodes_in (x.Number n) ≡ 1
nodes-Number n = ap nodes_in (sym (x.rolls-Number n)) ∙ expr_roll (RExpr-F.Number n)

pub nodes-Truth : (b : Bool) → nodes_in (x.Truth b) ≡ 1
nodes-Truth b = ap nodes_in (sym (x.rolls-Truth b)) ∙ expr_roll (RExpr-F.Truth b)

pub nodes-Var : (v : RVar) → nodes_in (x.Var v) ≡ nodes_in_var v
nodes-Var v = ap nodes_in (sym (x.rolls-Var v)) ∙ expr_roll (RExpr-F.Var v)

pub nodes-Negate : (e : RExpr) → nodes_in (x.Negate e) ≡ 1 + nodes_in e
nodes-Negate e = ap nodes_in (sym (x.rolls-Negate e)) ∙ expr_roll (RExpr-F.Negate e)

pub nodes-Not : (e : RExpr) → nodes_in (x.Not e) ≡ 1 + nodes_in e
nodes-Not e = ap nodes_in (sym (x.rolls-Not e)) ∙ expr_roll (RExpr-F.Not e)

pub nodes-Binary : (op : ROp) (a b : RExpr) → nodes_in (x.Binary op a b) ≡
    nodes_in a + 1 + nodes_in b
nodes-Binary op a b = ap nodes_in (sym (x.rolls-Binary op a b)) ∙ expr_roll (RExpr-F.Binary op a b)

step_roll : (e : RStep-F RExpr RStep RVar) → nodes_in_step (roll-RStep e) ≡
    step_nodes (map-RStep RExpr RStep RVar ℕ ℕ ℕ nodes_in nodes_in_step nodes_in_var e)
step_roll = fold-roll-RStep ℕ ℕ ℕ expr_nodes step_nodes var_nodes

pub nodes-Field : (k : ℕ) → nodes_in_step (step.Field k) ≡ 2
nodes-Field k = ap nodes_in_step (sym (step.rolls-Field k)) ∙ step_roll (RStep-F.Field k)

pub nodes-Index : (e : RExpr) → nodes_in_step (step.Index e) ≡ 1 + nodes_in e
nodes-Index e = ap nodes_in_step (sym (step.rolls-Index e)) ∙ step_roll (RStep-F.Index e)

pub nodes_in_var-is : (root : Root) (steps : List RStep) (type_id : ℕ) →
    nodes_in_var (roll-RVar (record { root = root; steps = steps; type_id = type_id })) ≡
    1 + sum (map nodes_in_step steps)
nodes_in_var-is root steps type_id = fold-roll-RVar ℕ ℕ ℕ expr_nodes step_nodes var_nodes
    (record { root = root; steps = steps; type_id = type_id })

-- an expression that is a variable
pub variable_nodes : (e : RExpr) (v : RVar) → out-RExpr e ≡ RExpr-F.Var v → nodes_in e ≡
    nodes_in_var v
variable_nodes e v is =
    fold_out-RExpr ℕ ℕ ℕ expr_nodes step_nodes var_nodes e
    ∙ ap (λ y. expr_nodes (map-RExpr RExpr RStep RVar ℕ ℕ ℕ nodes_in nodes_in_step nodes_in_var
    y)) is

-- ---- statements

stmt_roll : (y : RStmt-F RStmt RArm) → nodes_in_stmt (roll-RStmt y) ≡
    stmt_nodes (map-RStmt RStmt RArm ℕ ℕ nodes_in_stmt nodes_in_arm y)
stmt_roll = fold-roll-RStmt ℕ ℕ stmt_nodes arm_nodes

pub nodes-Assign : (v : RVar) (e : RExpr) → nodes_in_stmt (s.Assign v e) ≡
    nodes_in_var v + 1 + nodes_in e
nodes-Assign v e = ap nodes_in_stmt (sym (s.rolls-Assign v e)) ∙ stmt_roll (RStmt-F.Assign v e)

pub nodes-If : (arms : List RArm) (other : List RStmt) → nodes_in_stmt (s.If arms other) ≡
    sum (map nodes_in_arm arms) + nodes_in_all other
nodes-If arms other = ap nodes_in_stmt (sym (s.rolls-If arms other))
    ∙ stmt_roll (RStmt-F.If arms other)

pub nodes-While : (test : RExpr) (body : List RStmt) → nodes_in_stmt (s.While test body) ≡
    1 + nodes_in test + nodes_in_all body
nodes-While test body = ap nodes_in_stmt (sym (s.rolls-While test body))
    ∙ stmt_roll (RStmt-F.While test body)

pub nodes-Repeat : (body : List RStmt) (test : RExpr) → nodes_in_stmt (s.Repeat body test) ≡
    1 + nodes_in_all body + nodes_in test
nodes-Repeat body test = ap nodes_in_stmt (sym (s.rolls-Repeat body test))
    ∙ stmt_roll (RStmt-F.Repeat body test)

pub nodes-Call : (callee : ProcId) (args : List RArg) → nodes_in_stmt (s.Call callee args) ≡
    1 + sum (map arg_nodes args)
nodes-Call callee args = ap nodes_in_stmt (sym (s.rolls-Call callee args))
    ∙ stmt_roll (RStmt-F.Call callee args)

pub nodes-Read : (v : RVar) → nodes_in_stmt (s.Read v) ≡ 1 + nodes_in_var v
nodes-Read v = ap nodes_in_stmt (sym (s.rolls-Read v)) ∙ stmt_roll (RStmt-F.Read v)

pub nodes-Write : (e : RExpr) → nodes_in_stmt (s.Write e) ≡ 1 + nodes_in e
nodes-Write e = ap nodes_in_stmt (sym (s.rolls-Write e)) ∙ stmt_roll (RStmt-F.Write e)

pub nodes-WriteLine : nodes_in_stmt s.WriteLine ≡ 1
nodes-WriteLine = ap nodes_in_stmt (sym s.rolls-WriteLine) ∙ stmt_roll RStmt-F.WriteLine

pub nodes_in_arm-is : (test : RExpr) (body : List RStmt) →
    nodes_in_arm (roll-RArm (record { test = test; body = body })) ≡
    1 + nodes_in test + nodes_in_all body
nodes_in_arm-is test body = fold-roll-RArm ℕ ℕ stmt_nodes arm_nodes
    (record { test = test; body = body })
