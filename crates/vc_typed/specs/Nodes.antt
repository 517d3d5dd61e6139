-- The nodes of resolved trees. An identifier, a number or an operator of the text is a node, and so
-- are `:=`, `[`, `.`, IF, ELSIF, WHILE and REPEAT. A procedure has as many as its statements have
-- in the text; what these are read as has no more, since nothing stands for a sign `+`.
use Rattle.std.specs.Prelude.{◌≡◌, ℕ, ◌+◌, ◌≤◌, List, map, sum, Some, slice_get}
use Rattle.ob_syntax.specs.declared.checked.Checked.{Checked}
use Rattle.ob_syntax.specs.declared.checked.CheckedProc.{CheckedProc}
use Rattle.ob_syntax.specs.declared.checked.RArg.{RArg}
use Rattle.ob_syntax.specs.declared.checked.RArg.TheVariants.{Value, Lent}
use Rattle.ob_syntax.specs.declared.checked.RArm.{RArm, RArm-F, fold-RArm}
use Rattle.ob_syntax.specs.declared.checked.RExpr.{RExpr, RExpr-F, fold-RExpr}
use Rattle.ob_syntax.specs.declared.checked.RStep.{RStep, RStep-F, fold-RStep}
use Rattle.ob_syntax.specs.declared.checked.RStmt.{RStmt, RStmt-F, fold-RStmt}
use Rattle.ob_syntax.specs.declared.checked.RVar.{RVar, RVar-F, fold-RVar}

-- ---- expressions

abbrev pub expr_nodes : RExpr-F ℕ ℕ ℕ → ℕ
expr_nodes (RExpr-F.Number n) = 1
expr_nodes (RExpr-F.Truth b) = 1
expr_nodes (RExpr-F.Var v) = v
expr_nodes (RExpr-F.Negate x) = 1 + x
expr_nodes (RExpr-F.Not x) = 1 + x
expr_nodes (RExpr-F.Binary op x y) = x + 1 + y

-- a field has the `.` and its name
abbrev pub step_nodes : RStep-F ℕ ℕ ℕ → ℕ
step_nodes (RStep-F.Field k) = 2
step_nodes (RStep-F.Index x) = 1 + x

abbrev pub var_nodes : RVar-F ℕ ℕ ℕ → ℕ
var_nodes v = 1 + sum v.steps

abbrev pub nodes_in : RExpr → ℕ
nodes_in = fold-RExpr ℕ ℕ ℕ expr_nodes step_nodes var_nodes

abbrev pub nodes_in_step : RStep → ℕ
nodes_in_step = fold-RStep ℕ ℕ ℕ expr_nodes step_nodes var_nodes

abbrev pub nodes_in_var : RVar → ℕ
nodes_in_var = fold-RVar ℕ ℕ ℕ expr_nodes step_nodes var_nodes

-- ---- statements

abbrev pub arg_nodes : RArg → ℕ
arg_nodes (Value e) = nodes_in e
arg_nodes (Lent v) = nodes_in_var v

abbrev pub stmt_nodes : RStmt-F ℕ ℕ → ℕ
stmt_nodes (RStmt-F.Assign v e) = nodes_in_var v + 1 + nodes_in e
stmt_nodes (RStmt-F.If arms other) = sum arms + sum other
stmt_nodes (RStmt-F.While test body) = 1 + nodes_in test + sum body
stmt_nodes (RStmt-F.Repeat body test) = 1 + sum body + nodes_in test
stmt_nodes (RStmt-F.Call callee args) = 1 + sum (map arg_nodes args)
stmt_nodes (RStmt-F.Read v) = 1 + nodes_in_var v
stmt_nodes (RStmt-F.Write e) = 1 + nodes_in e
stmt_nodes RStmt-F.WriteLine = 1

abbrev pub arm_nodes : RArm-F ℕ ℕ → ℕ
arm_nodes arm = 1 + nodes_in arm.test + sum arm.body

abbrev pub nodes_in_stmt : RStmt → ℕ
nodes_in_stmt = fold-RStmt ℕ ℕ stmt_nodes arm_nodes

abbrev pub nodes_in_arm : RArm → ℕ
nodes_in_arm = fold-RArm ℕ ℕ stmt_nodes arm_nodes

abbrev pub nodes_in_all : List RStmt → ℕ
nodes_in_all body = sum (map nodes_in_stmt body)

-- ---- the whole

-- The body of each procedure has at most the procedure's nodes.
abbrev pub HaveTheirNodes : Checked → Type 0
HaveTheirNodes program =
    (number : ℕ) (proc : CheckedProc) → slice_get program.procs number ≡ Some proc →
    nodes_in_all proc.body ≤ proc.nodes
