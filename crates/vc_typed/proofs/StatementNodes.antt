-- What a statement is read as has at most the nodes of the statement.
use Rattle.std.proofs.Common.{◌≡◌, ℕ, ◌+◌, ◌≤◌, List, [], ◌∷◌, ◌++◌, length, map, refl, ap, sym}
use Rattle.std.proofs.Common.{◌∙◌, subst, arith}
use Rattle.std.specs.Prelude.{Ok, Err, nat_eq, sum, if◌then◌else◌}
use Rattle.pra_list.proofs.Results.{came_of}
use Rattle.pra_list.proofs.Choices.{by_test}
use Rattle.pra_list.specs.Results.{◌>>=◌}
use Rattle.ob_syntax.specs.declared.checked.Meaning.{Meaning}
use Rattle.ob_syntax.specs.declared.checked.Meaning.TheVariants as meaning
use Rattle.ob_syntax.specs.declared.checked.Param.{Param}
use Rattle.ob_syntax.specs.declared.checked.RArg.{RArg}
use Rattle.ob_syntax.specs.declared.checked.RArg.TheVariants.{Value, Lent}
use Rattle.ob_syntax.specs.declared.checked.RArm.{RArm}
use Rattle.ob_syntax.specs.declared.checked.RExpr.{RExpr, RExpr-F, out-RExpr}
use Rattle.ob_syntax.specs.declared.checked.RStep.{RStep}
use Rattle.ob_syntax.specs.declared.checked.RStmt.{RStmt}
use Rattle.ob_syntax.specs.declared.checked.RStmt.TheVariants as s
use Rattle.ob_syntax.specs.declared.checked.RVar.{RVar, out-RVar}
use Rattle.ob_syntax.specs.declared.checked.Standard.{Standard as StandardName}
use Rattle.ob_syntax.specs.declared.checked.Standard.TheVariants.{Read, Write, WriteLine}
use Rattle.ob_syntax.specs.declared.checked.Typed.{Typed}
use Rattle.ob_syntax.specs.declared.tree.Expr.{Expr, out-Expr}
use Rattle.ob_syntax.specs.Expressions.{Selected, expression, selected, variable, integer, boolean}
use Rattle.ob_syntax.specs.Expressions.{of_type, are_alike}
use Rattle.ob_syntax.specs.Names.{Place}
use Rattle.ob_syntax.specs.Statements.{target, assigned, condition, is_designator, lent_variable}
use Rattle.ob_syntax.specs.Statements.{lent, passed, argument, beyond, arguments, counted}
use Rattle.ob_syntax.specs.Statements.{parameters, standard_call, procedure_call, called, Judge}
use Rattle.ob_syntax.specs.Statements.{each}
use Rattle.vc_typed.specs.Nodes.{nodes_in, nodes_in_var, arg_nodes, nodes_in_stmt, nodes_in_arm}
use Rattle.vc_typed.proofs.Bindings.{ok_same, ok_err}
use Rattle.vc_typed.proofs.ExpressionNodes.{Bounded, Selectors, of_type_nodes, selected_variable}
use Rattle.vc_typed.proofs.NodeEquations.{sum-last, variable_nodes, nodes-Assign, nodes-Call}
use Rattle.vc_typed.proofs.NodeEquations.{nodes-Read, nodes-Write, nodes-WriteLine}

-- what is read of the statement has at most so many nodes
pub record BoundedStmt (most : ℕ) (judge : Judge RStmt) : Type 0 where
  pub few : (p : Place) (y : RStmt) → judge p ≡ Ok y → nodes_in_stmt y ≤ most

pub record BoundedArm (most : ℕ) (judge : Judge RArm) : Type 0 where
  pub few : (p : Place) (y : RArm) → judge p ≡ Ok y → nodes_in_arm y ≤ most

abbrev pub Stmts : ℕ → List (Judge RStmt) → Type 0
Stmts most [] = Unit {0}
Stmts most (j ∷ js) = (k : ℕ) × (l : ℕ) × (k + l ≤ most) × BoundedStmt k j × Stmts l js

abbrev pub Arms : ℕ → List (Judge RArm) → Type 0
Arms most [] = Unit {0}
Arms most (j ∷ js) = (k : ℕ) × (l : ℕ) × (k + l ≤ most) × BoundedArm k j × Arms l js

abbrev pub Exprs : ℕ → List Expr → Type 0
Exprs most [] = Unit {0}
Exprs most (e ∷ es) = (k : ℕ) × (l : ℕ) × (k + l ≤ most) × Bounded k (expression e) × Exprs l es

-- ---- lists

pub stmts_nodes : (p : Place) (js : List (Judge RStmt)) (most : ℕ) (done ys : List RStmt) →
    Stmts most js → each p done js ≡ Ok ys → sum (map nodes_in_stmt ys) ≤
    sum (map nodes_in_stmt done) + most
stmts_nodes p [] most done ys all is = let same = ap (λ zs. sum (map nodes_in_stmt zs))
    (ok_same done ys is) in omega (arith, same)
stmts_nodes p (j ∷ js) most done ys (k, l, room, one, rest) is =
    let of = came_of (j p) (λ one. each p (done ++ one ∷ []) js) ys is in
    let more = stmts_nodes p js l (done ++ of.0 ∷ []) ys rest of.2 in
    let few = one.few p of.0 of.1 in
    let last = sum-last nodes_in_stmt done of.0 in omega (arith, more, few, last, room)

pub arms_nodes : (p : Place) (js : List (Judge RArm)) (most : ℕ) (done ys : List RArm) →
    Arms most js → each p done js ≡ Ok ys → sum (map nodes_in_arm ys) ≤
    sum (map nodes_in_arm done) + most
arms_nodes p [] most done ys all is = let same = ap (λ zs. sum (map nodes_in_arm zs))
    (ok_same done ys is) in omega (arith, same)
arms_nodes p (j ∷ js) most done ys (k, l, room, one, rest) is =
    let of = came_of (j p) (λ one. each p (done ++ one ∷ []) js) ys is in
    let more = arms_nodes p js l (done ++ of.0 ∷ []) ys rest of.2 in
    let few = one.few p of.0 of.1 in
    let last = sum-last nodes_in_arm done of.0 in omega (arith, more, few, last, room)

-- ---- assignments and conditions

pub target_nodes : (p : Place) (d : Selected) (most : ℕ) (m : Meaning) (v : RVar) →
    Selectors most d.selectors → target p d m ≡ Ok v → nodes_in_var v ≤ 1 + most
target_nodes p d most (meaning.Variable owner r type_id) v all is =
    let of = came_of (selected p [] type_id d.selectors) (λ steps. Ok (variable r steps)) v is in
    let same = ap nodes_in_var (ok_same (variable r of.0) v of.2) in let few =
    selected_variable p d most r type_id of.0 all of.1 in omega (arith, same, few)
target_nodes p d most (meaning.Constant w) v all is = absurd (ok_err is)
target_nodes p d most (meaning.TypeName w) v all is = absurd (ok_err is)
target_nodes p d most (meaning.Procedure w) v all is = absurd (ok_err is)
target_nodes p d most (meaning.Standard w) v all is = absurd (ok_err is)

pub assigned_nodes : (token : ℕ) (v : RVar) (e : Typed) (y : RStmt) → assigned token v e ≡ Ok y →
    nodes_in_stmt y ≡ nodes_in_var v + 1 + nodes_in e.expr
assigned_nodes token v e y is =
    by_test (are_alike (out-RVar v).type_id e.type_id) (Ok (s.Assign v e.expr)) (Err (18, token))
    (Ok y) (λ b same. ap nodes_in_stmt (sym (ok_same (s.Assign v e.expr) y same))
    ∙ nodes-Assign v e.expr) (λ no same. absurd (ok_err same)) is

pub condition_nodes : (p : Place) (e : Expr) (most : ℕ) (y : RExpr) → Bounded most (expression e) →
    condition p e ≡ Ok y → nodes_in y ≤ most
condition_nodes p e most y few is =
    let last = (out-Expr e).span.last in
    let of = came_of ((expression e).judge p) (λ test. of_type 19 boolean last test) y is in
    let same = of_type_nodes 19 boolean last of.0 y of.2 in
    let le = few.few p of.0 of.1 in omega (arith, same, le)

-- ---- arguments

lent_is : (type_id token : ℕ) (e : Typed) (v : RVar) (form : RExpr-F RExpr RStep RVar) →
    out-RExpr e.expr ≡ form → lent_variable type_id token e ≡ Ok v → nodes_in e.expr ≡
    nodes_in_var v
lent_is type_id token e v (RExpr-F.Var w) form is =
    by_test (nat_eq e.type_id type_id) (Ok w) (Err (23, token)) (Ok v)
    (λ b same. variable_nodes e.expr w form ∙ ap nodes_in_var (ok_same w v same))
    (λ b same. absurd (ok_err same)) (rw (form, lent_variable) at is)
lent_is type_id token e v (RExpr-F.Number n) form is =
    absurd (ok_err (rw (form, lent_variable) at is))
lent_is type_id token e v (RExpr-F.Truth b) form is =
    absurd (ok_err (rw (form, lent_variable) at is))
lent_is type_id token e v (RExpr-F.Negate inner) form is =
    absurd (ok_err (rw (form, lent_variable) at is))
lent_is type_id token e v (RExpr-F.Not inner) form is =
    absurd (ok_err (rw (form, lent_variable) at is))
lent_is type_id token e v (RExpr-F.Binary op left right) form is =
    absurd (ok_err (rw (form, lent_variable) at is))

lent_nodes : (p : Place) (type_id : ℕ) (e : Expr) (most : ℕ) (v : RVar) →
    Bounded most (expression e) → lent p type_id e ≡ Ok v → nodes_in_var v ≤ most
lent_nodes p type_id e most v few is =
    let last = (out-Expr e).span.last in
    let of = came_of ((expression e).judge p)
    (λ typed. if is_designator e then lent_variable type_id last typed else Err (23, last)) v
    is in
    let le = few.few p of.0 of.1 in
    by_test (is_designator e) (lent_variable type_id last of.0) (Err (23, last)) (Ok v)
    (λ b same. let is = lent_is type_id last of.0 v (out-RExpr of.0.expr) refl same in
    omega (arith, is, le)) (λ b same. absurd (ok_err same)) of.2

passed_nodes : (p : Place) (type_id : ℕ) (e : Expr) (most : ℕ) (y : RExpr) →
    Bounded most (expression e) → passed p type_id e ≡ Ok y → nodes_in y ≤ most
passed_nodes p type_id e most y few is =
    let last = (out-Expr e).span.last in
    let of = came_of ((expression e).judge p) (λ typed. of_type 22 type_id last typed) y is in
    let same = of_type_nodes 22 type_id last of.0 y of.2 in
    let le = few.few p of.0 of.1 in omega (arith, same, le)

argument_nodes : (p : Place) (param : Param) (e : Expr) (most : ℕ) (arg : RArg) →
    Bounded most (expression e) → argument p param e ≡ Ok arg → arg_nodes arg ≤ most
argument_nodes p param e most arg few is =
    by_test param.by_var (lent p param.type_id e >>= (λ v. Ok (Lent v)))
    (passed p param.type_id e >>= (λ x. Ok (Value x))) (Ok arg)
    (λ b same.
    let of = came_of (lent p param.type_id e) (λ v. Ok (Lent v)) arg same in
    subst (λ a. arg_nodes a ≤ most) (ok_same (Lent of.0) arg of.2)
    (lent_nodes p param.type_id e most of.0 few of.1))
    (λ b same.
    let of = came_of (passed p param.type_id e) (λ x. Ok (Value x)) arg same in
    subst (λ a. arg_nodes a ≤ most) (ok_same (Value of.0) arg of.2)
    (passed_nodes p param.type_id e most of.0 few of.1)) is

arguments_nodes : (p : Place) (es : List Expr) (most : ℕ) (done : List RArg) (params : List Param)
    (args : List RArg) → Exprs most es → arguments p done params es ≡ Ok args →
    sum (map arg_nodes args) ≤ sum (map arg_nodes done) + most
arguments_nodes p [] most done params args all is = let same = ap (λ zs. sum (map arg_nodes zs))
    (ok_same done args is) in omega (arith, same)
arguments_nodes p (e ∷ es) most done (q ∷ params) args (k, l, room, one, rest) is =
    let of = came_of (argument p q e) (λ one. arguments p (done ++ one ∷ []) params es) args is in
    let more = arguments_nodes p es l (done ++ of.0 ∷ []) params args rest of.2 in
    let few = argument_nodes p q e k of.0 one of.1 in
    let last = sum-last arg_nodes done of.0 in omega (arith, more, few, last, room)
arguments_nodes p (e ∷ es) most done [] args (k, l, room, one, rest) is =
    let of = came_of ((expression e).judge p) (λ typed. arguments p done [] es) args is in
    let more = arguments_nodes p es l done [] args rest of.2 in omega (arith, more, room)

-- ---- calls

counted_is : {A : Type 0} (token wanted given : ℕ) (call y : A) → counted token wanted given call ≡
    Ok y → call ≡ y
counted_is token wanted given call y is = by_test (nat_eq wanted given) (Ok call) (Err (20, token))
    (Ok y) (λ b same. ok_same call y same) (λ b same. absurd (ok_err same)) is

procedure_nodes : (p : Place) (last id : ℕ) (es : List Expr) (most : ℕ) (y : RStmt) →
    Exprs most es → procedure_call p last id es ≡ Ok y → nodes_in_stmt y ≤ 1 + most
procedure_nodes p last id es most y all is =
    let of = came_of (arguments p [] (parameters p id) es)
    (λ args. counted last (length (parameters p id)) (length es)
    (s.Call (record { 0 = id }) args)) y is in
    let same = ap nodes_in_stmt
    (counted_is last (length (parameters p id)) (length es) (s.Call (record { 0 = id }) of.0) y
    of.2) in
    let few = arguments_nodes p es most [] (parameters p id) of.0 all of.1 in
    let whole = nodes-Call (record { 0 = id }) of.0 in
    let none : sum (map arg_nodes []) ≡ 0 = refl in omega (arith, same, few, whole, none)

standard_nodes : (p : Place) (last : ℕ) (which : StandardName) (es : List Expr) (most : ℕ)
    (y : RStmt) → Exprs most es → standard_call p last which es ≡ Ok y → nodes_in_stmt y ≤ 1 + most
standard_nodes p last Read [] most y all is = absurd (ok_err is)
standard_nodes p last Read (e ∷ es) most y (k, l, room, first, rest) is =
    let one = came_of (lent p integer e)
    (λ v. beyond p es >>= λ none. counted last 0 (length es) (s.Read v)) y is in
    let two = came_of (beyond p es) (λ none. counted last 0 (length es) (s.Read one.0)) y one.2 in
    let same = ap nodes_in_stmt (counted_is last 0 (length es) (s.Read one.0) y two.2) in
    let few = lent_nodes p integer e k one.0 first one.1 in
    let whole = nodes-Read one.0 in omega (arith, same, few, whole, room)
standard_nodes p last Write [] most y all is = absurd (ok_err is)
standard_nodes p last Write (e ∷ es) most y (k, l, room, first, rest) is =
    let one = came_of (passed p integer e)
    (λ v. beyond p es >>= λ none. counted last 0 (length es) (s.Write v)) y is in
    let two = came_of (beyond p es) (λ none. counted last 0 (length es) (s.Write one.0)) y one.2 in
    let same = ap nodes_in_stmt (counted_is last 0 (length es) (s.Write one.0) y two.2) in
    let few = passed_nodes p integer e k one.0 first one.1 in
    let whole = nodes-Write one.0 in omega (arith, same, few, whole, room)
standard_nodes p last WriteLine es most y all is =
    let two = came_of (beyond p es) (λ none. counted last 0 (length es) s.WriteLine) y is in
    let same = ap nodes_in_stmt (counted_is last 0 (length es) s.WriteLine y two.2) in
    let whole = nodes-WriteLine in omega (arith, same, whole)

pub called_nodes : (p : Place) (last name : ℕ) (m : Meaning) (es : List Expr) (most : ℕ)
    (y : RStmt) → Exprs most es → called p last name m es ≡ Ok y → nodes_in_stmt y ≤ 1 + most
called_nodes p last name (meaning.Procedure id) es most y all is =
    procedure_nodes p last id es most y all is
called_nodes p last name (meaning.Standard which) es most y all is =
    standard_nodes p last which es most y all is
called_nodes p last name (meaning.Constant w) es most y all is = absurd (ok_err is)
called_nodes p last name (meaning.TypeName w) es most y all is = absurd (ok_err is)
called_nodes p last name (meaning.Variable owner r w) es most y all is = absurd (ok_err is)
