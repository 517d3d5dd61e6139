-- What is added for a statement, from what is added for its parts.
use Rattle.std.proofs.Common.{◌≡◌, ℕ, ◌+◌, ◌*◌, ◌-◌, ◌<◌, ◌≤◌, List, [], ◌∷◌, length, map, drop}
use Rattle.std.proofs.Common.{get_or, sym, subst, arith}
use Rattle.std.proofs.lemmas.List.{drop_all}
use Rattle.pra_base.specs.declared.ids.BlockId.{BlockId}
use Rattle.pra_base.specs.declared.ids.ProcId.{ProcId}
use Rattle.pra_base.specs.declared.ids.VarId.{VarId}
use Rattle.pra_base.specs.declared.code.End.TheVariants.{Jump}
use Rattle.pra_base.specs.declared.code.VInstr.TheVariants.{Push, Call}
use Rattle.pra_base.specs.declared.code.VProc.{VProc}
use Rattle.ob_syntax.specs.declared.checked.RArg.{RArg}
use Rattle.ob_syntax.specs.declared.checked.RArg.TheVariants as arg
use Rattle.ob_syntax.specs.declared.checked.RArm.{RArm, out-RArm, fold_out-RArm}
use Rattle.ob_syntax.specs.declared.checked.RExpr.{RExpr}
use Rattle.ob_syntax.specs.declared.checked.RStmt.{RStmt}
use Rattle.ob_syntax.specs.declared.checked.RVar.{RVar}
use Rattle.vc_build.specs.Grow.{IsOpen, with_instr, with_end, with_open_block}
use Rattle.vc_build.proofs.Growth.{put_open}
use Rattle.vc_expr.specs.Counts.{AddsAtMost}
use Rattle.vc_expr.proofs.Counting.{adds_none, adds_more, adds_on, put_adds, close_adds, open_adds}
use Rattle.vc_select.specs.Amounts.{AddsForVariable, AddsForValue, AddsForTest}
use Rattle.vc_select.proofs.Arms.{next_item}
use Rattle.vc_select.proofs.Nodes.{variable_nodes-is, some_nodes, adds_both}
use Rattle.vc_typed.specs.Nodes.{nodes_in, nodes_in_var, arg_nodes, stmt_nodes, arm_nodes}
use Rattle.vc_typed.specs.Nodes.{nodes_in_stmt, nodes_in_arm, nodes_in_all}
use Rattle.vc_typed.proofs.NodeEquations.{sum-cons}
use Rattle.vc_stmt.specs.Amounts.{AddsForStatements, argument_nodes, AddsForArguments, AddsForArm}
use Rattle.vc_stmt.specs.Amounts.{nodes_in_arms, AddsForArms}
use Rattle.vc_stmt.specs.Blocks.{deeper, with_arm, with_loop}
use Rattle.vc_stmt.specs.Passes.{with_pushes, with_call}

-- ---- blocks, and jumps

pub jump_adds : (at : ℕ) (target : BlockId) (old new : VProc) → IsOpen old at →
    new ≡ with_end at (Jump target) old → AddsAtMost 0 0 0 0 old new
jump_adds at target old new o is = subst (AddsAtMost 0 0 0 0 old) (sym is)
    (close_adds at (Jump target) old o)

pub beside_adds : (depth : ℕ) (old new : VProc) → new ≡ with_open_block depth old →
    AddsAtMost 0 0 0 1 old new
beside_adds depth old new is = subst (AddsAtMost 0 0 0 1 old) (sym is) (open_adds depth old)

pub open_arm_adds : (depth : ℕ) (old new : VProc) → new ≡ with_arm depth old →
    AddsAtMost 0 0 0 2 old new
open_arm_adds depth old new is =
    let one = with_open_block depth old in
    subst (AddsAtMost 0 0 0 2 old) (sym is)
    (adds_on 0 0 0 1 0 0 0 1 old one (with_open_block depth one) (open_adds depth old)
    (open_adds depth one))

pub open_loop_adds : (depth : ℕ) (old new : VProc) → new ≡ with_loop depth old →
    AddsAtMost 0 0 0 3 old new
open_loop_adds depth old new is =
    let inner = deeper depth in
    let one = with_open_block depth old in
    let two = with_open_block inner one in
    subst (AddsAtMost 0 0 0 3 old) (sym is)
    (adds_on 0 0 0 1 0 0 0 2 old one (with_open_block inner two) (open_adds depth old)
    (adds_on 0 0 0 1 0 0 0 1 one two (with_open_block inner two) (open_adds inner one)
    (open_adds inner two)))

-- ---- each tree has a node

pub some_variable : (v : RVar) → 0 < nodes_in_var v
some_variable v = omega (arith, variable_nodes-is v)

some_argument : (a : RArg) → 0 < arg_nodes a
some_argument (arg.Value e) = some_nodes e
some_argument (arg.Lent v) = some_variable v

pub arm_is : (arm : RArm) → nodes_in_arm arm ≡ 1 + nodes_in (out-RArm arm).test + nodes_in_all
    (out-RArm arm).body
arm_is arm = fold_out-RArm ℕ ℕ stmt_nodes arm_nodes arm

arguments_some : (args : List RArg) → length args ≤ argument_nodes args
arguments_some [] = omega arith
arguments_some (a ∷ args) =
    omega (arith, some_argument a, arguments_some args, sum-cons (arg_nodes a) (map arg_nodes args))

arms_some : (arms : List RArm) → length arms ≤ nodes_in_arms arms
arms_some [] = omega arith
arms_some (a ∷ arms) = omega
    (arith, arm_is a, arms_some arms, sum-cons (nodes_in_arm a) (map nodes_in_arm arms))

-- ---- statements without others in them

pub statement_adds : (n m : ℕ) (old new : VProc) → n ≡ m → AddsForStatements m old new →
    AddsForStatements n old new
statement_adds n m old new e = subst (λ k. AddsForStatements k old new) (sym e)

pub assign_adds : (n m : ℕ) (old one two new : VProc) → 0 < n → 0 < m → AddsForVariable n old one →
    AddsForValue m one two → AddsAtMost 1 0 0 0 two new → AddsForStatements (n + 1 + m) old new
assign_adds n m old one two new p q a b c =
    adds_both (4 * n - 4) (3 * n - 3) (2 * n - 2) (2 * n - 2) (4 * m - 2) (3 * m - 2) (2 * m - 1)
    (2 * m - 2) (4 * (n + 1 + m)) (3 * (n + 1 + m)) (4 * (n + 1 + m)) (2 * (n + 1 + m)) old one
    new
    (omega (arith, p, q)) (omega (arith, p, q)) (omega (arith, p, q)) (omega (arith, p, q)) a
    (adds_both (4 * m - 3) (3 * m - 2) (2 * m - 1) (2 * m - 2) 1 0 0 0 (4 * m - 2) (3 * m - 2)
    (2 * m - 1) (2 * m - 2) one two new (omega (arith, q)) (omega arith) (omega arith)
    (omega arith) b c)

pub read_adds : (n : ℕ) (old mid new : VProc) → 0 < n → AddsForVariable n old mid →
    AddsAtMost 2 1 0 0 mid new → AddsForStatements (1 + n) old new
read_adds n old mid new p a b =
    adds_both (4 * n - 4) (3 * n - 3) (2 * n - 2) (2 * n - 2) 2 1 0 0 (4 * (1 + n)) (3 * (1 + n))
    (4 * (1 + n)) (2 * (1 + n)) old mid new (omega (arith, p)) (omega (arith, p))
    (omega (arith, p)) (omega (arith, p)) a b

pub write_adds : (n : ℕ) (old mid new : VProc) → 0 < n → AddsForValue n old mid →
    AddsAtMost 1 0 0 0 mid new → AddsForStatements (1 + n) old new
write_adds n old mid new p a b =
    adds_both (4 * n - 3) (3 * n - 2) (2 * n - 1) (2 * n - 2) 1 0 0 0 (4 * (1 + n)) (3 * (1 + n))
    (4 * (1 + n)) (2 * (1 + n)) old mid new (omega (arith, p)) (omega (arith, p))
    (omega (arith, p)) (omega (arith, p)) a b

pub line_adds : (old new : VProc) → AddsAtMost 1 0 0 0 old new → AddsForStatements 1 old new
line_adds old new a = adds_more 1 0 0 0 (4 * 1) (3 * 1) (4 * 1) (2 * 1) old new (omega arith)
    (omega arith) (omega arith) (omega arith) a

-- ---- calls

pub value_argument : (a : RArg) (e : RExpr) (old new : VProc) → a ≡ arg.Value e →
    AddsForValue (nodes_in e) old new → AddsForValue (arg_nodes a) old new
value_argument a e old new is = subst (λ (z : RArg). AddsForValue (arg_nodes z) old new) (sym is)

pub lent_argument : (a : RArg) (v : RVar) (old new : VProc) → a ≡ arg.Lent v →
    AddsForValue (nodes_in_var v) old new → AddsForValue (arg_nodes a) old new
lent_argument a v old new is = subst (λ (z : RArg). AddsForValue (arg_nodes z) old new) (sym is)

pub arguments_none : (all : List RArg) (i : ℕ) (old : VProc) → length all ≤ i →
    AddsForArguments (drop i all) old old
arguments_none all i old past = subst (λ (z : List RArg). AddsForArguments z old old)
    (sym (drop_all i all past))
    (adds_more 0 0 0 0 (4 * 0 - 0) (3 * 0) (4 * 0) (2 * 0) old old (omega arith) (omega arith)
    (omega arith) (omega arith) (adds_none old))

first_argument : (a : RArg) (rest : List RArg) (old mid new : VProc) →
    AddsForValue (arg_nodes a) old mid → AddsForArguments rest mid new →
    AddsForArguments (a ∷ rest) old new
first_argument a rest old mid new p q =
    let n = arg_nodes a in
    let m = argument_nodes rest in
    let k = argument_nodes (a ∷ rest) in
    let is : k ≡ n + m = sum-cons n (map arg_nodes rest) in
    let some = some_argument a in
    let enough = arguments_some rest in
    adds_both (4 * n - 3) (3 * n - 2) (2 * n - 1) (2 * n - 2) (4 * m - length rest) (3 * m) (4 * m)
    (2 * m) (4 * k - length (a ∷ rest)) (3 * k) (4 * k) (2 * k) old mid new
    (omega (arith, is, some, enough)) (omega (arith, is, some)) (omega (arith, is, some))
    (omega (arith, is, some)) p q

pub arguments_more : (all : List RArg) (i : ℕ) (a : RArg) (old mid new : VProc) → i < length all →
    a ≡ get_or all i a → AddsForValue (arg_nodes a) old mid →
    AddsForArguments (drop (i + 1) all) mid new → AddsForArguments (drop i all) old new
arguments_more all i a old mid new lt is p q = subst (λ (z : List RArg). AddsForArguments z old new)
    (sym (next_item all i a lt is)) (first_argument a (drop (i + 1) all) old mid new p q)

pushes_add : (at : ℕ) (vs : List VarId) (old : VProc) → IsOpen old at →
    AddsAtMost (length vs) 0 0 0 old (with_pushes at vs old)
pushes_add at [] old o = adds_none old
pushes_add at (v ∷ vs) old o =
    let one = with_instr at (Push v) old in
    adds_both 1 0 0 0 (length vs) 0 0 0 (length (v ∷ vs)) 0 0 0 old one (with_pushes at vs one)
    (omega arith) (omega arith) (omega arith) (omega arith) (put_adds at (Push v) old o)
    (pushes_add at vs one (put_open at (Push v) old o))

call_puts : (at : ℕ) (p : ProcId) (vs : List VarId) (old : VProc) → IsOpen old at →
    IsOpen (with_pushes at vs old) at → AddsAtMost (length vs + 1) 0 0 0 old (with_call at p vs old)
call_puts at p vs old o pushed = adds_on (length vs) 0 0 0 1 0 0 0 old (with_pushes at vs old)
    (with_call at p vs old) (pushes_add at vs old o)
    (put_adds at (Call p) (with_pushes at vs old) pushed)

pub call_adds : (at : ℕ) (p : ProcId) (vs : List VarId) (args : List RArg) (old mid new : VProc) →
    IsOpen mid at → IsOpen (with_pushes at vs mid) at → length vs ≡ length args →
    new ≡ with_call at p vs mid → AddsForArguments args old mid →
    AddsForStatements (1 + argument_nodes args) old new
call_adds at p vs args old mid new o pushed many is a =
    let n = argument_nodes args in
    let enough = arguments_some args in
    adds_both (4 * n - length args) (3 * n) (4 * n) (2 * n) (length vs + 1) 0 0 0 (4 * (1 + n))
    (3 * (1 + n)) (4 * (1 + n)) (2 * (1 + n)) old mid new
    (omega (arith, many, enough)) (omega arith) (omega arith) (omega arith) a
    (subst (AddsAtMost (length vs + 1) 0 0 0 mid) (sym is) (call_puts at p vs mid o pushed))

-- ---- sequences

pub none_adds : (all : List RStmt) (i : ℕ) (old : VProc) → length all ≤ i →
    AddsForStatements (nodes_in_all (drop i all)) old old
none_adds all i old past =
    subst (λ (z : List RStmt). AddsForStatements (nodes_in_all z) old old)
    (sym (drop_all i all past))
    (adds_more 0 0 0 0 (4 * 0) (3 * 0) (4 * 0) (2 * 0) old old (omega arith) (omega arith)
    (omega arith) (omega arith) (adds_none old))

first_adds : (t : RStmt) (rest : List RStmt) (old mid new : VProc) →
    AddsForStatements (nodes_in_stmt t) old mid → AddsForStatements (nodes_in_all rest) mid new →
    AddsForStatements (nodes_in_all (t ∷ rest)) old new
first_adds t rest old mid new p q =
    let n = nodes_in_stmt t in
    let m = nodes_in_all rest in
    let k = nodes_in_all (t ∷ rest) in
    let is : k ≡ n + m = sum-cons n (map nodes_in_stmt rest) in
    adds_both (4 * n) (3 * n) (4 * n) (2 * n) (4 * m) (3 * m) (4 * m) (2 * m) (4 * k) (3 * k)
    (4 * k) (2 * k) old mid new (omega (arith, is)) (omega (arith, is)) (omega (arith, is))
    (omega (arith, is)) p q

pub more_adds : (all : List RStmt) (i : ℕ) (t : RStmt) (old mid new : VProc) → i < length all →
    t ≡ get_or all i t → AddsForStatements (nodes_in_stmt t) old mid →
    AddsForStatements (nodes_in_all (drop (i + 1) all)) mid new →
    AddsForStatements (nodes_in_all (drop i all)) old new
more_adds all i t old mid new lt is p q =
    subst (λ (z : List RStmt). AddsForStatements (nodes_in_all z) old new)
    (sym (next_item all i t lt is)) (first_adds t (drop (i + 1) all) old mid new p q)

-- ---- loops: three blocks, a test and the statements

pub while_adds : (n m : ℕ) (old m1 m2 m3 m4 new : VProc) → 0 < n → AddsAtMost 0 0 0 3 old m1 →
    AddsAtMost 0 0 0 0 m1 m2 → AddsForTest n m2 m3 → AddsForStatements m m3 m4 →
    AddsAtMost 0 0 0 0 m4 new → AddsForStatements (1 + n + m) old new
while_adds n m old m1 m2 m3 m4 new p a b c d e =
    adds_both (4 * n - 2) (3 * n - 2) (2 * n) (2 * n + 1) (4 * m) (3 * m) (4 * m) (2 * m)
    (4 * (1 + n + m)) (3 * (1 + n + m)) (4 * (1 + n + m)) (2 * (1 + n + m)) old m3 new
    (omega (arith, p)) (omega (arith, p)) (omega (arith, p)) (omega (arith, p))
    (adds_both 0 0 0 3 (4 * n - 2) (3 * n - 2) (2 * n) (2 * n - 2) (4 * n - 2) (3 * n - 2) (2 * n)
    (2 * n + 1) old m2 m3 (omega arith) (omega arith) (omega arith) (omega (arith, p))
    (adds_on 0 0 0 3 0 0 0 0 old m1 m2 a b) c)
    (adds_both (4 * m) (3 * m) (4 * m) (2 * m) 0 0 0 0 (4 * m) (3 * m) (4 * m) (2 * m) m3 m4 new
    (omega arith) (omega arith) (omega arith) (omega arith) d e)

pub repeat_adds : (n m : ℕ) (old m1 m2 m3 m4 new : VProc) → 0 < n → AddsAtMost 0 0 0 3 old m1 →
    AddsAtMost 0 0 0 0 m1 m2 → AddsForStatements m m2 m3 → AddsAtMost 0 0 0 0 m3 m4 →
    AddsForTest n m4 new → AddsForStatements (1 + m + n) old new
repeat_adds n m old m1 m2 m3 m4 new p a b c d e =
    adds_both (4 * m) (3 * m) (4 * m) (2 * m + 3) (4 * n - 2) (3 * n - 2) (2 * n) (2 * n - 2)
    (4 * (1 + m + n)) (3 * (1 + m + n)) (4 * (1 + m + n)) (2 * (1 + m + n)) old m4 new
    (omega (arith, p)) (omega (arith, p)) (omega (arith, p)) (omega (arith, p))
    (adds_both 0 0 0 3 (4 * m) (3 * m) (4 * m) (2 * m) (4 * m) (3 * m) (4 * m) (2 * m + 3) old m2 m4
    (omega arith) (omega arith) (omega arith) (omega arith)
    (adds_on 0 0 0 3 0 0 0 0 old m1 m2 a b)
    (adds_both (4 * m) (3 * m) (4 * m) (2 * m) 0 0 0 0 (4 * m) (3 * m) (4 * m) (2 * m) m2 m3 m4
    (omega arith) (omega arith) (omega arith) (omega arith) c d))
    e

-- ---- IF

pub arm_adds : (n m k : ℕ) (old m1 m2 m3 new : VProc) → k ≡ 1 + n + m → 0 < n →
    AddsAtMost 0 0 0 2 old m1 → AddsForTest n m1 m2 → AddsForStatements m m2 m3 →
    AddsAtMost 0 0 0 0 m3 new → AddsForArm k old new
arm_adds n m k old m1 m2 m3 new is p a b c d =
    adds_both (4 * n - 2) (3 * n - 2) (2 * n) (2 * n) (4 * m) (3 * m) (4 * m) (2 * m) (4 * k)
    (3 * k) (4 * k) (2 * k - 2) old m2 new (omega (arith, p, is)) (omega (arith, p, is))
    (omega (arith, p, is)) (omega (arith, p, is))
    (adds_both 0 0 0 2 (4 * n - 2) (3 * n - 2) (2 * n) (2 * n - 2) (4 * n - 2) (3 * n - 2) (2 * n)
    (2 * n) old m1 m2 (omega arith) (omega arith) (omega arith) (omega (arith, p)) a b)
    (adds_both (4 * m) (3 * m) (4 * m) (2 * m) 0 0 0 0 (4 * m) (3 * m) (4 * m) (2 * m) m2 m3 new
    (omega arith) (omega arith) (omega arith) (omega arith) c d)

pub arms_none : (all : List RArm) (i : ℕ) (old : VProc) → length all ≤ i →
    AddsForArms (drop i all) old old
arms_none all i old past = subst (λ (z : List RArm). AddsForArms z old old)
    (sym (drop_all i all past))
    (adds_more 0 0 0 0 (4 * 0) (3 * 0) (4 * 0) (2 * 0 - 2 * 0) old old (omega arith) (omega arith)
    (omega arith) (omega arith) (adds_none old))

first_arm : (a : RArm) (rest : List RArm) (old mid new : VProc) →
    AddsForArm (nodes_in_arm a) old mid → AddsForArms rest mid new → AddsForArms (a ∷ rest) old new
first_arm a rest old mid new p q =
    let n = nodes_in_arm a in
    let m = nodes_in_arms rest in
    let k = nodes_in_arms (a ∷ rest) in
    let is : k ≡ n + m = sum-cons n (map nodes_in_arm rest) in
    let some = arm_is a in
    let enough = arms_some rest in
    adds_both (4 * n) (3 * n) (4 * n) (2 * n - 2) (4 * m) (3 * m) (4 * m) (2 * m - 2 * length rest)
    (4 * k) (3 * k) (4 * k) (2 * k - 2 * length (a ∷ rest)) old mid new
    (omega (arith, is)) (omega (arith, is)) (omega (arith, is)) (omega (arith, is, some, enough)) p
    q

pub arms_more : (all : List RArm) (i : ℕ) (a : RArm) (old mid new : VProc) → i < length all →
    a ≡ get_or all i a → AddsForArm (nodes_in_arm a) old mid →
    AddsForArms (drop (i + 1) all) mid new → AddsForArms (drop i all) old new
arms_more all i a old mid new lt is p q = subst (λ (z : List RArm). AddsForArms z old new)
    (sym (next_item all i a lt is)) (first_arm a (drop (i + 1) all) old mid new p q)

pub if_adds : (arms : List RArm) (m : ℕ) (old m1 m2 m3 new : VProc) → 0 < length arms →
    AddsAtMost 0 0 0 1 old m1 → AddsForArms arms m1 m2 → AddsForStatements m m2 m3 →
    AddsAtMost 0 0 0 0 m3 new → AddsForStatements (nodes_in_arms arms + m) old new
if_adds arms m old m1 m2 m3 new some a b c d =
    let n = nodes_in_arms arms in
    let enough = arms_some arms in
    adds_both (4 * n) (3 * n) (4 * n) (2 * n - 1) (4 * m) (3 * m) (4 * m) (2 * m) (4 * (n + m))
    (3 * (n + m)) (4 * (n + m)) (2 * (n + m)) old m2 new (omega arith) (omega arith)
    (omega arith) (omega (arith, some, enough))
    (adds_both 0 0 0 1 (4 * n) (3 * n) (4 * n) (2 * n - 2 * length arms) (4 * n) (3 * n) (4 * n)
    (2 * n - 1) old m1 m2 (omega arith) (omega arith) (omega arith)
    (omega (arith, some, enough)) a b)
    (adds_both (4 * m) (3 * m) (4 * m) (2 * m) 0 0 0 0 (4 * m) (3 * m) (4 * m) (2 * m) m2 m3 new
    (omega arith) (omega arith) (omega arith) (omega arith) c d)
