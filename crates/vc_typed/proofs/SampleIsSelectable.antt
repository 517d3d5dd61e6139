-- Code can be selected for the sample.
use Rattle.std.proofs.Common.{◌≡◌, ℕ, ◌+◌, ◌<◌, ◌≤◌, true, false, ◌&&◌, List, [], ◌∷◌, ◌++◌, refl}
use Rattle.std.proofs.Common.{ap, ◌∙◌, arith}
use Rattle.std.specs.Prelude.{pos}
use Rattle.pra_list.proofs.Truths.{both_true}
use Rattle.pra_base.specs.Limits.{limit_maximum}
use Rattle.pra_base.specs.declared.limit.LimitKind.TheVariants.{ArrayLength, TypeWords}
use Rattle.pra_list.proofs.Each.{each_at}
use Rattle.pra_list.proofs.Options.{none_some}
use Rattle.ob_syntax.specs.Expressions.{integer, boolean}
use Rattle.ob_syntax.specs.Storage.{all_words}
use Rattle.ob_syntax.specs.WellFormed.{is_scalar, lent_root, lent_in}
use Rattle.ob_syntax.specs.declared.checked.RArg.TheVariants.{Value, Lent}
use Rattle.ob_syntax.specs.declared.checked.RExpr.{RExpr}
use Rattle.ob_syntax.specs.declared.checked.RExpr.TheVariants as x
use Rattle.ob_syntax.specs.declared.checked.ROp.TheVariants.{Less}
use Rattle.ob_syntax.specs.declared.checked.RStep.{RStep}
use Rattle.ob_syntax.specs.declared.checked.RStep.TheVariants as step
use Rattle.ob_syntax.specs.declared.checked.RStmt.TheVariants as s
use Rattle.ob_syntax.specs.declared.checked.RVar.{RVar, RVar-F, out-RVar, out-roll-RVar}
use Rattle.ob_syntax.specs.declared.checked.Root.{Root}
use Rattle.ob_syntax.specs.declared.checked.Root.TheVariants.{Module, Param, Local}
use Rattle.ob_syntax.specs.declared.checked.Shape.{Shape}
use Rattle.ob_syntax.specs.declared.checked.Shape.TheVariants.{Array}
use Rattle.vc_relation.specs.Layout.{NamesBelow, IsLaidIn, IsLaidOut}
use Rattle.vc_typed.specs.Nodes.{nodes_in, nodes_in_step, nodes_in_var, nodes_in_stmt, nodes_in_all}
use Rattle.vc_typed.specs.Nodes.{HaveTheirNodes}
use Rattle.vc_typed.specs.TypedModules.{all_have_addresses, lent_in_all, IsTypedProc, IsTyped}
use Rattle.vc_typed.specs.TypedModules.{IsLimitedProc, IsLimited, IsSelectable}
use Rattle.vc_typed.specs.TypedSample.{whole, number, call, element, part, test, first_call}
use Rattle.vc_typed.specs.TypedSample.{inner_call, outer_call, body, called, sample}
use Rattle.vc_typed.specs.TypedStatements.{is_typed, are_typed}
use Rattle.vc_typed.specs.Typing.{Typing, typed, is_of, ToElement, along, root_typing}
use Rattle.vc_typed.specs.Typing.{binary_typing, typing, leading, variable_typing}
use Rattle.vc_typed.proofs.Equations.{typing-Number, typing-Var, typing-Binary, leading-Field}
use Rattle.vc_typed.proofs.Equations.{leading-Index}
use Rattle.vc_typed.proofs.ExpressionTypes.{variable_good}
use Rattle.vc_typed.proofs.NodeEquations.{sum-cons, nodes-Number, nodes-Var, nodes-Binary}
use Rattle.vc_typed.proofs.NodeEquations.{nodes-Field, nodes-Index, nodes_in_var-is, nodes-While}
use Rattle.vc_typed.proofs.NodeEquations.{nodes-Call, nodes-Read}
use Rattle.vc_typed.proofs.StatementEquations.{typed-While, typed-Call, typed-Read, lent-While}
use Rattle.vc_typed.proofs.StatementEquations.{lent-Call, lent-Read}

-- ---- layout, which does not look at bodies

laid_body : IsLaidIn sample.types body
laid_body = record {
  param_types = λ k param e. absurd (none_some e);
  local_types =
      λ k local e. absurd (none_some e);
  locals = refl;
  few = omega arith;
}

laid_called : IsLaidIn sample.types called
laid_called = record {
  param_types = each_at (λ k param. param.by_var ≡ false → is_scalar param.type_id ≡ true)
      called.params ((λ e. refl), ((λ e. refl), ((λ e. refl), tt)));
  local_types = each_at (λ k local. local.type_id < 4) called.locals
      (omega arith, (omega arith, (omega arith, tt)));
  locals = ((λ e. absurd (differ e)), ((λ e. refl), ((λ e. refl), refl)));
  few = omega arith;
}
  where
    differ : false ≡ true → ⊥
    differ e = cc

sample_laid : IsLaidOut sample
sample_laid = record {
  types = record {
    first = refl;
    second = refl;
    below = each_at NamesBelow sample.types (
      tt,
      (
        tt,
        (
          each_at (λ k field. field < 2) (0 ∷ 0 ∷ []) (omega arith, (omega arith, tt)),
          (omega arith, tt),
        ),
      ),
    );
  };
  var_types = each_at (λ n var. var.type_id < 4) sample.vars (omega arith, (omega arith, tt));
  vars = ((λ e. refl), ((λ e. refl), refl));
  few = omega arith;
  procs = each_at (λ p proc. IsLaidIn sample.types proc) sample.procs
      (laid_body, (laid_called, tt));
}

-- ---- types

whole_typed : (here : ℕ) (root : Root) → root_typing sample here root ≡ typed true integer →
    variable_typing sample here (whole root) ≡ typed true integer
whole_typed here root good = variable_good sample here root ([], integer) good

value_typed : (here : ℕ) (v : RVar) → variable_typing sample here v ≡ typed true integer →
    typing sample here (x.Var v) ≡ typed true integer
value_typed here v good = typing-Var sample here v
    ∙ ap (λ (y : Typing). typed (y.good && is_scalar y.type_id) y.type_id) good

element_typed : variable_typing sample 0 element ≡ typed true integer
element_typed =
    let steps = step.Index (number 1) ∷ step.Field 1 ∷ [] in
    let root = root_typing sample 0 (Module 1) in
    variable_good sample 0 (Module 1) (steps, integer)
    (ap (λ a. along sample.types root (a ∷ leading sample 0 (step.Field 1) ∷ []))
    (leading-Index sample 0 (number 1) ∙ ap ToElement (typing-Number sample 0 (pos 1)))
    ∙ ap (λ b. along sample.types root (ToElement (typed true integer) ∷ b ∷ []))
    (leading-Field sample 0 1))

part_typed : variable_typing sample 1 part ≡ typed true integer
part_typed =
    variable_good sample 1 (Local 1) (step.Field 0 ∷ [], integer)
    (ap (λ b. along sample.types (root_typing sample 1 (Local 1)) (b ∷ []))
    (leading-Field sample 1 0))

test_typed : typing sample 1 test ≡ typed true boolean
test_typed =
    typing-Binary sample 1 Less (x.Var (whole (Param 1))) (x.Var (whole (Local 0)))
    ∙ ap (λ z. binary_typing Less z (typing sample 1 (x.Var (whole (Local 0)))))
    (value_typed 1 (whole (Param 1)) (whole_typed 1 (Param 1) refl))
    ∙ ap (λ z. binary_typing Less (typed true integer) z)
    (value_typed 1 (whole (Local 0)) (whole_typed 1 (Local 0) refl))

call_typed : (here : ℕ) (p : RVar) (n m : RExpr) → variable_typing sample here p ≡
    typed true integer → typing sample here n ≡ typed true integer → typing sample here m ≡
    typed true integer → is_typed sample here (call (Lent p) n m) ≡ true
call_typed here p n m first second third =
    typed-Call sample here (record { 0 = 1 }) (Lent p ∷ Value n ∷ Value m ∷ [])
    ∙ both_true (is_of integer (variable_typing sample here p)) _ (ap (is_of integer) first)
    (both_true (is_of integer (typing sample here n)) _ (ap (is_of integer) second)
    (both_true (is_of integer (typing sample here m)) true (ap (is_of integer) third) refl))

outer_typed : is_typed sample 0 outer_call ≡ true
outer_typed = call_typed 0 element (number 5) (number 6) element_typed
    (typing-Number sample 0 (pos 5)) (typing-Number sample 0 (pos 6))

first_typed : is_typed sample 1 first_call ≡ true
first_typed = call_typed 1 (whole (Param 2)) (x.Var (whole (Param 1))) (number 5)
    (whole_typed 1 (Param 2) refl) (value_typed 1 (whole (Param 1)) (whole_typed 1 (Param 1) refl))
    (typing-Number sample 1 (pos 5))

inner_typed : is_typed sample 1 inner_call ≡ true
inner_typed =
    call_typed 1 (whole (Local 2)) (x.Var (whole (Local 0))) (x.Var (whole (Param 0)))
    (whole_typed 1 (Local 2) refl)
    (value_typed 1 (whole (Local 0)) (whole_typed 1 (Local 0) refl))
    (value_typed 1 (whole (Param 0)) (whole_typed 1 (Param 0) refl))

called_typed : are_typed sample 1 called.body ≡ true
called_typed =
    both_true _ _ first_typed
    (both_true _ _ (typed-While sample 1 test (inner_call ∷ [])
    ∙ both_true _ _ (ap (is_of boolean) test_typed) (both_true _ true inner_typed refl))
    (both_true _ true (typed-Read sample 1 part ∙ ap (is_of integer) part_typed) refl))

-- ---- what is lent

lent_bare : (v : RVar) → (out-RVar v).steps ≡ [] → lent_root v ≡ (out-RVar v).root ∷ []
lent_bare v is = rw (is, lent_root) refl

lent_selected : (v : RVar) (t : RStep) (ts : List RStep) → (out-RVar v).steps ≡ t ∷ ts →
    lent_root v ≡ []
lent_selected v t ts is = rw (is, lent_root) refl

lent_whole : (root : Root) → lent_root (whole root) ≡ root ∷ []
lent_whole root =
    let is = out-roll-RVar (record { root = root; steps = []; type_id = integer }) in
    lent_bare (whole root) (ap (λ (z : RVar-F RExpr RStep RVar). z.steps) is)
    ∙ ap (λ (z : RVar-F RExpr RStep RVar). z.root ∷ []) is

lent_element : lent_root element ≡ []
lent_element =
    let is = out-roll-RVar (record
    { root = Module 1; steps = step.Index (number 1) ∷ step.Field 1 ∷ []; type_id = integer })
    in
    lent_selected element (step.Index (number 1)) (step.Field 1 ∷ [])
    (ap (λ (z : RVar-F RExpr RStep RVar). z.steps) is)

call_lends : (p : RVar) (n m : RExpr) (roots : List Root) → lent_root p ≡ roots →
    lent_in (call (Lent p) n m) ≡ roots ++ []
call_lends p n m roots is = lent-Call (record { 0 = 1 }) (Lent p ∷ Value n ∷ Value m ∷ [])
    ∙ ap (λ z. z ++ []) is

body_lends : lent_in_all body.body ≡ []
body_lends = ap (λ z. z ++ []) (call_lends element (number 5) (number 6) [] lent_element)

read_lends : lent_in (s.Read part) ≡ []
read_lends = lent-Read part

called_lends : lent_in_all called.body ≡ Param 2 ∷ Local 2 ∷ []
called_lends =
    ap (λ z. z ++ (lent_in (s.While test (inner_call ∷ [])) ++ (lent_in (s.Read part) ++ [])))
    (call_lends (whole (Param 2)) (x.Var (whole (Param 1))) (number 5) (Param 2 ∷ [])
    (lent_whole (Param 2)))
    ∙ ap (λ z. Param 2 ∷ (z ++ (lent_in (s.Read part) ++ [])))
    (lent-While test (inner_call ∷ []) ∙ ap (λ z. z ++ [])
    (call_lends (whole (Local 2)) (x.Var (whole (Local 0))) (x.Var (whole (Param 0)))
    (Local 2 ∷ []) (lent_whole (Local 2))))
    ∙ ap (λ z. Param 2 ∷ Local 2 ∷ (z ++ [])) read_lends

-- ---- the whole

sample_typed : IsTyped sample
sample_typed = record {
  procs = each_at (λ number proc. IsTypedProc sample number proc) sample.procs (
    record {
      id = refl;
      typed = both_true _ true outer_typed refl;
      lends =
          ap (all_have_addresses body) body_lends;
    },
    (
      record {
        id = refl;
        typed = called_typed;
        lends = ap (all_have_addresses called) called_lends;
      },
      tt,
    ),
  );
  body = body;
  first = refl;
  no_params = refl;
  no_locals = refl;
}

sample_limited : IsLimited sample
sample_limited = record {
  lengths = λ k count element at. each_at
      (λ k shape. (count element : ℕ) → shape ≡ Array count element →
      count ≤ limit_maximum ArrayLength) sample.types (
        (λ c e is. absurd (cc)),
        ((λ c e is. absurd (cc)), ((λ c e is. absurd (cc)), ((λ c e is. counted c e is), tt))),
      ) k (Array count element) at count element refl;
  words = each_at (λ k words. words ≤ limit_maximum TypeWords) (all_words sample.types)
      (omega arith, (omega arith, (omega arith, (omega arith, tt))));
  count = omega arith;
  procs = each_at (λ number proc. IsLimitedProc proc) sample.procs (
    record { params = omega arith; scalars = omega arith; nodes = omega arith },
    (record { params = omega arith; scalars = omega arith; nodes = omega arith }, tt),
  );
}
  where
    three : (c e : ℕ) → ◌≡◌ {A = Shape} (Array 3 2) (Array c e) → 3 ≡ c
    three c e is = cc

    counted : (c e : ℕ) → ◌≡◌ {A = Shape} (Array 3 2) (Array c e) → c ≤ limit_maximum ArrayLength
    counted c e is = let same = three c e is in omega (arith, same)

pub sample_selectable : IsSelectable sample
sample_selectable = record { laid = sample_laid; typed = sample_typed; limited = sample_limited }

-- ---- nodes

call_nodes : (p : RVar) (n m : RExpr) → nodes_in_stmt (call (Lent p) n m) ≡
    1 + nodes_in_var p + nodes_in n + nodes_in m
call_nodes p n m =
    let whole = nodes-Call (record { 0 = 1 }) (Lent p ∷ Value n ∷ Value m ∷ []) in
    let one = sum-cons (nodes_in_var p) (nodes_in n ∷ nodes_in m ∷ []) in
    let two = sum-cons (nodes_in n) (nodes_in m ∷ []) in
    let three = sum-cons (nodes_in m) [] in omega (arith, whole, one, two, three)

whole_nodes : (root : Root) → nodes_in_var (whole root) ≡ 1
whole_nodes root = nodes_in_var-is root [] integer

value_nodes : (root : Root) → nodes_in (x.Var (whole root)) ≡ 1
value_nodes root = nodes-Var (whole root) ∙ whole_nodes root

element_nodes : nodes_in_var element ≡ 5
element_nodes =
    let steps = step.Index (number 1) ∷ step.Field 1 ∷ [] in
    let var = nodes_in_var-is (Module 1) steps integer in
    let one = sum-cons (nodes_in_step (step.Index (number 1)))
    (nodes_in_step (step.Field 1) ∷ []) in
    let two = sum-cons (nodes_in_step (step.Field 1)) [] in
    omega (arith, var, one, two, nodes-Index (number 1), nodes-Number (pos 1), nodes-Field 1)

part_nodes : nodes_in_var part ≡ 3
part_nodes =
    let var = nodes_in_var-is (Local 1) (step.Field 0 ∷ []) integer in
    let one = sum-cons (nodes_in_step (step.Field 0)) [] in omega (arith, var, one, nodes-Field 0)

body_nodes : nodes_in_all body.body ≡ 8
body_nodes =
    let one = sum-cons (nodes_in_stmt outer_call) [] in
    let whole = call_nodes element (number 5) (number 6) in
    omega (arith, one, whole, element_nodes, nodes-Number (pos 5), nodes-Number (pos 6))

first_nodes : nodes_in_stmt first_call ≡ 4
first_nodes =
    let all = call_nodes (whole (Param 2)) (x.Var (whole (Param 1))) (number 5) in
    omega (arith, all, whole_nodes (Param 2), value_nodes (Param 1), nodes-Number (pos 5))

inner_nodes : nodes_in_stmt inner_call ≡ 4
inner_nodes =
    let all = call_nodes (whole (Local 2)) (x.Var (whole (Local 0))) (x.Var (whole (Param 0))) in
    omega (arith, all, whole_nodes (Local 2), value_nodes (Local 0), value_nodes (Param 0))

loop_nodes : nodes_in_stmt (s.While test (inner_call ∷ [])) ≡ 8
loop_nodes =
    let all = nodes-While test (inner_call ∷ []) in
    let condition = nodes-Binary Less (x.Var (whole (Param 1))) (x.Var (whole (Local 0))) in
    let one = sum-cons (nodes_in_stmt inner_call) [] in
    omega (
      arith,
      all,
      condition,
      one,
      inner_nodes,
      value_nodes (Param 1),
      value_nodes (Local 0),
    )

called_nodes : nodes_in_all called.body ≡ 16
called_nodes =
    let one = sum-cons (nodes_in_stmt first_call)
    (nodes_in_stmt (s.While test (inner_call ∷ [])) ∷ nodes_in_stmt (s.Read part) ∷ []) in
    let two = sum-cons (nodes_in_stmt (s.While test (inner_call ∷ [])))
    (nodes_in_stmt (s.Read part) ∷ []) in
    let three = sum-cons (nodes_in_stmt (s.Read part)) [] in
    let read = nodes-Read part in
    omega (arith, one, two, three, read, first_nodes, loop_nodes, part_nodes)

pub sample_nodes : HaveTheirNodes sample
sample_nodes = each_at (λ number proc. nodes_in_all proc.body ≤ proc.nodes) sample.procs
    (let few = body_nodes in omega (arith, few), (let few = called_nodes in omega (arith, few), tt))
