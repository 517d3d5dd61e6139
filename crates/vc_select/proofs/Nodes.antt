-- The nodes of trees, and what is added for a tree from what is added for its parts.
use Rattle.std.proofs.Common.{◌≡◌, ℕ, suc, ◌+◌, ◌*◌, ◌-◌, ◌<◌, ◌≤◌, Bool, true, false, sym, ap, ◌∙◌}
use Rattle.std.proofs.Common.{subst, arith}
use Rattle.std.specs.Prelude.{if◌then◌else◌}
use Rattle.pra_base.specs.Code.{kind_of}
use Rattle.pra_base.specs.declared.code.VarKind.{VarKind}
use Rattle.pra_base.specs.declared.code.VProc.{VProc}
use Rattle.ob_syntax.specs.declared.checked.ROp.{ROp}
use Rattle.ob_syntax.specs.declared.checked.RExpr.{RExpr, RExpr-F, out-RExpr, map-RExpr}
use Rattle.ob_syntax.specs.declared.checked.RExpr.{fold_out-RExpr}
use Rattle.ob_syntax.specs.declared.checked.RExpr.TheVariants as x
use Rattle.ob_syntax.specs.declared.checked.RStep.{RStep}
use Rattle.ob_syntax.specs.declared.checked.RStep.TheVariants as step
use Rattle.ob_syntax.specs.declared.checked.RVar.{RVar, fold_out-RVar}
use Rattle.vc_expr.specs.Counts.{AddsAtMost, start_count, OperationAdds}
use Rattle.vc_expr.specs.Operators.{is_temporary}
use Rattle.vc_expr.proofs.Counting.{adds_more, adds_on}
use Rattle.vc_typed.specs.Nodes.{expr_nodes, step_nodes, var_nodes, nodes_in, nodes_in_step}
use Rattle.vc_typed.specs.Nodes.{nodes_in_var}
use Rattle.vc_typed.proofs.NodeEquations.{nodes-Negate, nodes-Not, nodes-Binary, nodes-Index}
use Rattle.vc_select.specs.Amounts.{path_nodes, AddsForPath, AddsForVariable, AddsForValue}
use Rattle.vc_select.specs.Amounts.{AddsForTest}

-- ---- each tree has a node

pub variable_nodes-is : (v : RVar) → nodes_in_var v ≡ suc (path_nodes v.steps)
variable_nodes-is v =
    let is : nodes_in_var v ≡ 1 + path_nodes v.steps = fold_out-RVar ℕ ℕ ℕ expr_nodes step_nodes
    var_nodes v in
    omega (arith, is)

some_in : (e : RExpr-F RExpr RStep RVar) →
    0 < expr_nodes (map-RExpr RExpr RStep RVar ℕ ℕ ℕ nodes_in nodes_in_step nodes_in_var e)
some_in (RExpr-F.Number n) = omega arith
some_in (RExpr-F.Truth b) = omega arith
some_in (RExpr-F.Var v) = omega (arith, variable_nodes-is v)
some_in (RExpr-F.Negate e) = omega arith
some_in (RExpr-F.Not e) = omega arith
some_in (RExpr-F.Binary op a b) = omega arith

pub some_nodes : (e : RExpr) → 0 < nodes_in e
some_nodes e =
    let is : nodes_in e ≡ expr_nodes
    (map-RExpr RExpr RStep RVar ℕ ℕ ℕ nodes_in nodes_in_step nodes_in_var (out-RExpr e)) =
    fold_out-RExpr ℕ ℕ ℕ expr_nodes step_nodes var_nodes e in
    subst (λ n. 0 < n) (sym is) (some_in (out-RExpr e))

-- ---- the nodes of a form

pub negate_nodes : (a e : RExpr) → e ≡ x.Negate a → nodes_in e ≡ suc (nodes_in a)
negate_nodes a e is =
    let same : nodes_in e ≡ 1 + nodes_in a = ap nodes_in is ∙ nodes-Negate a in
    omega (arith, same)

pub not_nodes : (a e : RExpr) → e ≡ x.Not a → nodes_in e ≡ suc (nodes_in a)
not_nodes a e is =
    let same : nodes_in e ≡ 1 + nodes_in a = ap nodes_in is ∙ nodes-Not a in
    omega (arith, same)

pub binary_nodes : (op : ROp) (a b e : RExpr) → e ≡ x.Binary op a b → nodes_in e ≡
    suc (nodes_in a + nodes_in b)
binary_nodes op a b e is =
    let same : nodes_in e ≡ nodes_in a + 1 + nodes_in b = ap nodes_in is ∙ nodes-Binary op a b in
    omega (arith, same)

pub index_nodes : (a : RExpr) (s : RStep) → s ≡ step.Index a → nodes_in_step s ≡ suc (nodes_in a)
index_nodes a s is =
    let same : nodes_in_step s ≡ 1 + nodes_in a = ap nodes_in_step is ∙ nodes-Index a in
    omega (arith, same)

-- ---- the start of an operation

one_at_most : (b : Bool) → (if b then 0 else 1) ≤ 1
one_at_most true = omega arith
one_at_most false = omega arith

start_at_most : (kind : VarKind) (first v : ℕ) → start_count kind first v ≤ 1
start_at_most kind first v = one_at_most (is_temporary kind first v)

-- with its start an operation adds one instruction and one local variable more
pub operation_most : (i v c first u : ℕ) (old new : VProc) → OperationAdds i v c first u old new →
    AddsAtMost (suc i) (suc v) c 0 old new
operation_most i v c first u old new a =
    let most = start_at_most (kind_of old u) first u in
    adds_more (start_count (kind_of old u) first u + i) (start_count (kind_of old u) first u + v) c
    0 (suc i) (suc v) c 0 old new (omega (arith, most)) (omega (arith, most)) (omega arith)
    (omega arith) a

-- ---- from two parts

-- where the sums of both parts are no more
pub adds_both : (i v c b j w d e k x y z : ℕ) (old mid new : VProc) → i + j ≤ k → v + w ≤ x →
    c + d ≤ y → b + e ≤ z → AddsAtMost i v c b old mid → AddsAtMost j w d e mid new →
    AddsAtMost k x y z old new
adds_both i v c b j w d e k x y z old mid new p q r s one two = adds_more (i + j) (v + w) (c + d)
    (b + e) k x y z old new p q r s (adds_on i v c b j w d e old mid new one two)

-- ---- expressions

pub value_adds : (n m : ℕ) (old new : VProc) → n ≡ m → AddsForValue m old new →
    AddsForValue n old new
value_adds n m old new e = subst (λ k. AddsForValue k old new) (sym e)

pub test_adds : (n m : ℕ) (old new : VProc) → n ≡ m → AddsForTest m old new → AddsForTest n old new
test_adds n m old new e = subst (λ k. AddsForTest k old new) (sym e)

pub one_node : (i v c : ℕ) (old new : VProc) → i ≤ 1 → v ≤ 1 → c ≤ 1 → AddsAtMost i v c 0 old new →
    AddsForValue 1 old new
one_node i v c old new p q r a = adds_more i v c 0 (4 * 1 - 3) (3 * 1 - 2) (2 * 1 - 1)
    (2 * 1 - 2) old new (omega (arith, p)) (omega (arith, q)) (omega (arith, r)) (omega arith) a

pub loaded_adds : (n : ℕ) (old mid new : VProc) → 0 < n → AddsForVariable n old mid →
    AddsAtMost 1 1 0 0 mid new → AddsForValue n old new
loaded_adds n old mid new some a b =
    adds_both (4 * n - 4) (3 * n - 3) (2 * n - 2) (2 * n - 2) 1 1 0 0 (4 * n - 3) (3 * n - 2)
    (2 * n - 1) (2 * n - 2) old mid new (omega (arith, some)) (omega (arith, some))
    (omega (arith, some)) (omega (arith, some)) a b

-- a sign
pub sign_adds : (n : ℕ) (old mid new : VProc) → 0 < n → AddsForValue n old mid →
    AddsAtMost 2 1 1 0 mid new → AddsForValue (suc n) old new
sign_adds n old mid new some a b =
    adds_both (4 * n - 3) (3 * n - 2) (2 * n - 1) (2 * n - 2) 2 1 1 0 (4 * suc n - 3)
    (3 * suc n - 2) (2 * suc n - 1) (2 * suc n - 2) old mid new (omega (arith, some))
    (omega (arith, some)) (omega (arith, some)) (omega (arith, some)) a b

-- an operator of both sides
pub sides_add : (n m : ℕ) (old one two new : VProc) → 0 < n → 0 < m → AddsForValue n old one →
    AddsForValue m one two → AddsAtMost 7 4 1 0 two new → AddsForValue (suc (n + m)) old new
sides_add n m old one two new p q a b c =
    adds_both (4 * n - 3) (3 * n - 2) (2 * n - 1) (2 * n - 2) (4 * m + 4) (3 * m + 2) (2 * m)
    (2 * m - 2) (4 * suc (n + m) - 3) (3 * suc (n + m) - 2) (2 * suc (n + m) - 1)
    (2 * suc (n + m) - 2) old one new
    (omega (arith, p, q)) (omega (arith, p, q)) (omega (arith, p, q)) (omega (arith, p, q)) a
    (adds_both (4 * m - 3) (3 * m - 2) (2 * m - 1) (2 * m - 2) 7 4 1 0 (4 * m + 4) (3 * m + 2)
    (2 * m) (2 * m - 2) one two new (omega (arith, q)) (omega (arith, q)) (omega (arith, q))
    (omega arith) b c)

-- `&` and OR over blocks
pub choice_adds : (n m : ℕ) (old m1 m2 m3 new : VProc) → 0 < n → 0 < m → AddsAtMost 1 1 0 2 old m1 →
    AddsForTest n m1 m2 → AddsForValue m m2 m3 → AddsAtMost 1 0 0 0 m3 new →
    AddsForValue (suc (n + m)) old new
choice_adds n m old m1 m2 m3 new p q a b c d =
    adds_both (4 * n - 1) (3 * n - 1) (2 * n) (2 * n) (4 * m - 2) (3 * m - 2) (2 * m - 1)
    (2 * m - 2) (4 * suc (n + m) - 3) (3 * suc (n + m) - 2) (2 * suc (n + m) - 1)
    (2 * suc (n + m) - 2) old m2 new
    (omega (arith, p, q)) (omega (arith, p, q)) (omega (arith, p, q)) (omega (arith, p, q))
    (adds_both 1 1 0 2 (4 * n - 2) (3 * n - 2) (2 * n) (2 * n - 2) (4 * n - 1) (3 * n - 1) (2 * n)
    (2 * n) old m1 m2 (omega (arith, p)) (omega (arith, p)) (omega (arith, p))
    (omega (arith, p)) a b)
    (adds_both (4 * m - 3) (3 * m - 2) (2 * m - 1) (2 * m - 2) 1 0 0 0 (4 * m - 2) (3 * m - 2)
    (2 * m - 1) (2 * m - 2) m2 m3 new (omega (arith, q)) (omega (arith, q)) (omega (arith, q))
    (omega arith) c d)

-- ---- conditions

pub value_test_adds : (n : ℕ) (old mid new : VProc) → 0 < n → AddsForValue n old mid →
    AddsAtMost 1 0 1 0 mid new → AddsForTest n old new
value_test_adds n old mid new some a b =
    adds_both (4 * n - 3) (3 * n - 2) (2 * n - 1) (2 * n - 2) 1 0 1 0 (4 * n - 2) (3 * n - 2)
    (2 * n) (2 * n - 2) old mid new (omega (arith, some)) (omega (arith, some))
    (omega (arith, some)) (omega arith) a b

pub not_test_adds : (n : ℕ) (old new : VProc) → AddsForTest n old new → AddsForTest (suc n) old new
not_test_adds n old new a = adds_more (4 * n - 2) (3 * n - 2) (2 * n) (2 * n - 2) (4 * suc n - 2)
    (3 * suc n - 2) (2 * suc n) (2 * suc n - 2) old new (omega arith) (omega arith) (omega arith)
    (omega arith) a

pub relation_test_adds : (n m : ℕ) (old one two new : VProc) → 0 < n → 0 < m →
    AddsForValue n old one → AddsForValue m one two → AddsAtMost 1 0 0 0 two new →
    AddsForTest (suc (n + m)) old new
relation_test_adds n m old one two new p q a b c =
    adds_both (4 * n - 3) (3 * n - 2) (2 * n - 1) (2 * n - 2) (4 * m - 2) (3 * m - 2) (2 * m - 1)
    (2 * m - 2) (4 * suc (n + m) - 2) (3 * suc (n + m) - 2) (2 * suc (n + m))
    (2 * suc (n + m) - 2) old one new
    (omega (arith, p, q)) (omega (arith, p, q)) (omega (arith, p, q)) (omega (arith, p, q)) a
    (adds_both (4 * m - 3) (3 * m - 2) (2 * m - 1) (2 * m - 2) 1 0 0 0 (4 * m - 2) (3 * m - 2)
    (2 * m - 1) (2 * m - 2) one two new (omega (arith, q)) (omega (arith, q)) (omega (arith, q))
    (omega arith) b c)

pub split_test_adds : (n m : ℕ) (old one two new : VProc) → 0 < n → 0 < m →
    AddsAtMost 0 0 0 1 old one → AddsForTest n one two → AddsForTest m two new →
    AddsForTest (suc (n + m)) old new
split_test_adds n m old one two new p q a b c =
    adds_both (4 * n - 2) (3 * n - 2) (2 * n) (2 * n - 1) (4 * m - 2) (3 * m - 2) (2 * m)
    (2 * m - 2) (4 * suc (n + m) - 2) (3 * suc (n + m) - 2) (2 * suc (n + m))
    (2 * suc (n + m) - 2) old two new
    (omega (arith, p, q)) (omega (arith, p, q)) (omega (arith, p, q)) (omega (arith, p, q))
    (adds_both 0 0 0 1 (4 * n - 2) (3 * n - 2) (2 * n) (2 * n - 2) (4 * n - 2) (3 * n - 2) (2 * n)
    (2 * n - 1) old one two (omega arith) (omega arith) (omega arith) (omega (arith, p)) a b)
    c

-- ---- selectors

-- an element: its index, a test, a product and a sum
pub element_adds : (n : ℕ) (old mid new : VProc) → 0 < n → AddsForValue n old mid →
    AddsAtMost 5 2 1 0 mid new → AddsForPath (suc n) old new
element_adds n old mid new some a b =
    adds_both (4 * n - 3) (3 * n - 2) (2 * n - 1) (2 * n - 2) 5 2 1 0 (4 * suc n) (3 * suc n)
    (2 * suc n) (2 * suc n) old mid new (omega (arith, some)) (omega (arith, some))
    (omega (arith, some)) (omega arith) a b

pub path_adds : (n : ℕ) (old new : VProc) → AddsAtMost 0 0 0 0 old new → AddsForPath n old new
path_adds n old new a = adds_more 0 0 0 0 (4 * n) (3 * n) (2 * n) (2 * n) old new (omega arith)
    (omega arith) (omega arith) (omega arith) a

pub path_on : (n m : ℕ) (old mid new : VProc) → AddsForPath n old mid → AddsForPath m mid new →
    AddsForPath (n + m) old new
path_on n m old mid new a b =
    adds_both (4 * n) (3 * n) (2 * n) (2 * n) (4 * m) (3 * m) (2 * m) (2 * m) (4 * (n + m))
    (3 * (n + m)) (2 * (n + m)) (2 * (n + m)) old mid new (omega arith) (omega arith)
    (omega arith) (omega arith) a b

pub path_variable : (v : RVar) (old new : VProc) → AddsForPath (path_nodes v.steps) old new →
    AddsForVariable (nodes_in_var v) old new
path_variable v old new a =
    let n = path_nodes v.steps in
    let is = variable_nodes-is v in
    adds_more (4 * n) (3 * n) (2 * n) (2 * n) (4 * nodes_in_var v - 4) (3 * nodes_in_var v - 3)
    (2 * nodes_in_var v - 2) (2 * nodes_in_var v - 2) old new (omega (arith, is))
    (omega (arith, is)) (omega (arith, is)) (omega (arith, is)) a
