-- What the walk needs besides the arms: that targets have small numbers, that blocks wait open, and
-- the whole of a choice.
use Rattle.std.proofs.Common.{◌≡◌, ℕ, zero, suc, ◌+◌, ◌<◌, ◌≤◌, Bool, true, false, List, [], ◌∷◌}
use Rattle.std.proofs.Common.{length, max, Option, Some, None, refl, sym, ap, ◌∙◌, subst, arith}
use Rattle.std.specs.Prelude.{slice_get}
use Rattle.pra_base.specs.Code.{kind_of, block_of}
use Rattle.pra_base.specs.declared.code.VarKind.TheVariants.{Plain}
use Rattle.pra_base.specs.declared.ids.BlockId.{BlockId}
use Rattle.pra_base.specs.declared.code.VProc.{VProc}
use Rattle.ob_syntax.specs.declared.checked.Checked.{Checked}
use Rattle.ob_syntax.specs.declared.checked.CheckedProc.{CheckedProc}
use Rattle.ob_syntax.specs.declared.checked.ROp.{ROp}
use Rattle.ob_syntax.specs.declared.checked.ROp.TheVariants.{Mul, Div, Mod, Both, Add, Sub, Either}
use Rattle.ob_syntax.specs.declared.checked.ROp.TheVariants.{Equal, Unequal, Less, LessEqual}
use Rattle.ob_syntax.specs.declared.checked.ROp.TheVariants.{Greater, GreaterEqual}
use Rattle.ob_syntax.specs.declared.checked.Root.{Root}
use Rattle.ob_syntax.specs.declared.checked.Root.TheVariants as root
use Rattle.ob_mean.specs.Expressions.{Evaluation}
use Rattle.vc_build.specs.Grow.{count, open_block, with_open_block, IsOpen}
use Rattle.vc_build.proofs.Growth.{opened_block, opened_count, opened_kept}
use Rattle.vc_expr.specs.Operators.{Operates, is_bitwise}
use Rattle.vc_expr.specs.Choices.{test_of, OpensChoice, ClosesChoice}
use Rattle.vc_expr.specs.declared.branch.Targets.{Targets}
use Rattle.vc_expr.specs.declared.choice.Choice.{Choice}
use Rattle.vc_relation.specs.declared.home.Home.{Home}
use Rattle.vc_relation.specs.declared.home.Home.TheVariants as home
use Rattle.vc_select.specs.declared.target.Setting.{Setting}
use Rattle.vc_select.specs.declared.target.Target.{Target}
use Rattle.vc_select.specs.declared.target.Target.TheVariants.{Var, Memory}
use Rattle.vc_select.specs.Targets.{home_target, home_in, by_var_of, param_target, root_target}
use Rattle.vc_select.specs.Targets.{whole_of, above_home, above_homes, above_target}
use Rattle.vc_select.specs.Targets.{above_target_base}
use Rattle.vc_typed.specs.Typing.{Typing, binary_typing}
use Rattle.vc_select.specs.Selects.{Selects, Tests, sided, joined, inner_targets}
use Rattle.vc_select.proofs.Sides.{selects_sides}
use Rattle.vc_select.proofs.Chosen.{selects_choice}
use Rattle.vc_select.proofs.Conditions.{tests_split}

-- ---- numbers of variables

above_in : (homes : List Home) (k : ℕ) → above_home (home_in homes k) ≤ above_homes homes
above_in [] k = omega arith
above_in (h ∷ hs) zero = omega arith
above_in (h ∷ hs) (suc k) = omega (arith, above_in hs k)

above_of_home : (b : Bool) (h : Home) → above_target (home_target b h) ≤ above_home h
above_of_home true (home.Var v) = omega arith
above_of_home false (home.Var v) = omega arith
above_of_home b (home.Cell k) = omega arith
above_of_home b (home.Frame n) = omega arith

above_of_param : (homes : List Home) (p : Option CheckedProc) (k : ℕ) →
    above_target (param_target homes p k) ≤ above_homes homes
above_of_param homes None k = omega (arith, above_of_home false (home_in homes k), above_in homes k)
above_of_param homes (Some proc) k =
    omega (
      arith,
      above_of_home (by_var_of (slice_get proc.params k)) (home_in homes k),
      above_in homes k,
    )

pub above_root : (program : Checked) (params locals : List Home) (proc : ℕ) (r : Root) →
    above_target (root_target program params locals proc r) ≤ max (above_homes params)
    (above_homes locals)
above_root program params locals proc (root.Module n) = omega arith
above_root program params locals proc (root.Param k) =
    omega (arith, above_of_param params (slice_get program.procs proc) k)
above_root program params locals proc (root.Local k) =
    omega (arith, above_of_home false (home_in locals k), above_in locals k)

-- the target of a variable without selectors is whole
whole_home : (by_var : Bool) (h : Home) → whole_of (home_target by_var h) ≡ home_target by_var h
whole_home true (home.Var v) = refl
whole_home false (home.Var v) = refl
whole_home by_var (home.Cell k) = refl
whole_home by_var (home.Frame w) = refl

whole_param : (homes : List Home) (o : Option CheckedProc) (k : ℕ) →
    whole_of (param_target homes o k) ≡ param_target homes o k
whole_param homes None k = whole_home false (home_in homes k)
whole_param homes (Some proc) k = whole_home (by_var_of (slice_get proc.params k)) (home_in homes k)

pub whole_root : (program : Checked) (params locals : List Home) (proc : ℕ) (r : Root) →
    whole_of (root_target program params locals proc r) ≡ root_target program params locals proc r
whole_root program params locals proc (root.Module n) = refl
whole_root program params locals proc (root.Param k) =
    whole_param params (slice_get program.procs proc) k
whole_root program params locals proc (root.Local k) = whole_home false (home_in locals k)

pub above_base_within : (t : Target) → above_target_base t ≤ above_target t
above_base_within (Var v) = omega arith
above_base_within (Memory a) = omega arith

-- ---- operators

pub selects_both : (op : ROp) (g : Setting) (old one two new : VProc)
    (from between to u v r first : ℕ) (left right : Typing) (e f : Evaluation) →
    first ≡ length old.vars → u < length one.vars → Selects g old one from between u left e →
    Selects g one two between to v right f →
    Operates op first to two new u v r → Selects g old new from to r (binary_typing op left right)
    (sided op e f)
selects_both op g old one two new from between to u v r first left right e f first_is named p q o =
    selects_sides op g old one two new from between to u v r left right e f named p q
    (subst (λ n. Operates op n to two new u v r) first_is o)

-- ---- where the test of a left side leads

module _ (choice : Choice) (P : ℕ → Type 0) (one : P choice.right.0) (other : P choice.behind.0)
  where
    pub test_holds : (op : ROp) → P (test_of op choice).holds.0
    test_holds Either = other
    test_holds Both = one
    test_holds Mul = one
    test_holds Div = one
    test_holds Mod = one
    test_holds Add = one
    test_holds Sub = one
    test_holds Equal = one
    test_holds Unequal = one
    test_holds Less = one
    test_holds LessEqual = one
    test_holds Greater = one
    test_holds GreaterEqual = one

    pub test_fails : (op : ROp) → P (test_of op choice).fails.0
    test_fails Either = one
    test_fails Both = other
    test_fails Mul = other
    test_fails Div = other
    test_fails Mod = other
    test_fails Add = other
    test_fails Sub = other
    test_fails Equal = other
    test_fails Unequal = other
    test_fails Less = other
    test_fails LessEqual = other
    test_fails Greater = other
    test_fails GreaterEqual = other

module _ (targets : Targets) (right : BlockId) (P : ℕ → Type 0) (is_right : P right.0)
    (holds : P targets.holds.0) (fails : P targets.fails.0) where
  pub inner_holds : (op : ROp) → P (inner_targets op right targets).holds.0
  inner_holds Either = holds
  inner_holds Both = is_right
  inner_holds Mul = is_right
  inner_holds Div = is_right
  inner_holds Mod = is_right
  inner_holds Add = is_right
  inner_holds Sub = is_right
  inner_holds Equal = is_right
  inner_holds Unequal = is_right
  inner_holds Less = is_right
  inner_holds LessEqual = is_right
  inner_holds Greater = is_right
  inner_holds GreaterEqual = is_right

  pub inner_fails : (op : ROp) → P (inner_targets op right targets).fails.0
  inner_fails Either = is_right
  inner_fails Both = fails
  inner_fails Mul = fails
  inner_fails Div = fails
  inner_fails Mod = fails
  inner_fails Add = fails
  inner_fails Sub = fails
  inner_fails Equal = fails
  inner_fails Unequal = fails
  inner_fails Less = fails
  inner_fails LessEqual = fails
  inner_fails Greater = fails
  inner_fails GreaterEqual = fails

-- ---- blocks that wait

module _ (op : ROp) (old m1 : VProc) (from : ℕ) (choice : Choice) (o : IsOpen old from)
    (opens : OpensChoice op from old m1 choice) where
  pub choice_holds : (targets : Targets) → targets ≡ test_of op choice → targets.holds.0 < count m1
  choice_holds targets is = subst (λ (t : Targets). t.holds.0 < count m1) (sym is)
      (test_holds choice (λ n. n < count m1) (omega (arith, opens.right, opens.blocks))
      (omega (arith, opens.behind, opens.blocks)) op)

  pub choice_fails : (targets : Targets) → targets ≡ test_of op choice → targets.fails.0 < count m1
  choice_fails targets is = subst (λ (t : Targets). t.fails.0 < count m1) (sym is)
      (test_fails choice (λ n. n < count m1) (omega (arith, opens.right, opens.blocks))
      (omega (arith, opens.behind, opens.blocks)) op)

  module _ (g : Setting) (m2 : VProc) (targets : Targets) (left : Typing) (e : Evaluation)
      (p : Tests g m1 m2 from targets left e) where
    pub choice_waits : IsOpen m2 choice.right.0
    choice_waits =
        let same : block_of m2 choice.right.0 ≡ open_block (block_of old from).depth =
        p.grows.others choice.right.0 (omega (arith, opens.right, opens.blocks))
        (λ z. absurd (omega (arith, z, opens.right, o.0))) ∙ opens.right_block in
        (omega (arith, opens.right, opens.blocks, p.grows.grows.blocks), ap (λ b. b.end) same)

    module _ (m3 : VProc) (to v : ℕ) (right : Typing) (f : Evaluation)
        (q : Selects g m2 m3 choice.right.0 to v right f) where
      pub choice_target : choice.target.0 < length m3.vars
      choice_target = omega (
        arith,
        opens.adds.named,
        p.grows.grows.vars,
        q.extends.grows.grows.vars,
      )

      pub choice_plain : kind_of m3 choice.target.0 ≡ Plain
      choice_plain = q.extends.grows.grows.kinds choice.target.0
          (omega (arith, opens.adds.named, p.grows.grows.vars))
          ∙ p.grows.grows.kinds choice.target.0 opens.adds.named ∙ opens.adds.plain

      pub choice_behind : choice.behind.0 < count m3
      choice_behind = omega (
        arith,
        opens.behind,
        opens.blocks,
        p.grows.grows.blocks,
        q.extends.grows.grows.blocks,
      )

      pub choice_no_entry : 0 < choice.behind.0
      choice_no_entry = omega (arith, opens.behind)

      pub choice_selects : is_bitwise op ≡ true → targets ≡ test_of op choice → (new : VProc) →
          ClosesChoice to m3 new v choice → Selects g old new from choice.behind.0 choice.target.0
          (binary_typing op left right) (joined op e f)
      choice_selects bitwise is new closes = selects_choice op bitwise g old m1 m2 m3 new from to v
          choice left right e f o opens (subst (λ t. Tests g m1 m2 from t left e) is p) q closes

-- ---- `&` and OR as conditions

module _ (op : ROp) (old one : VProc) (from depth : ℕ) (right : BlockId) (targets : Targets)
    (o : IsOpen old from) (opened : one ≡ with_open_block depth old)
    (number_is : right.0 ≡ count old) where
  count_is : count one ≡ count old + 1
  count_is = ap count opened ∙ opened_count depth old

  pub split_holds : (inner : Targets) → inner ≡ inner_targets op right targets → targets.holds.0 <
      count old → targets.fails.0 < count old → inner.holds.0 < count one
  split_holds inner is holds fails = subst (λ (t : Targets). t.holds.0 < count one) (sym is)
      (inner_holds targets right (λ n. n < count one) (omega (arith, number_is, count_is))
      (omega (arith, holds, count_is)) (omega (arith, fails, count_is)) op)

  pub split_fails : (inner : Targets) → inner ≡ inner_targets op right targets → targets.holds.0 <
      count old → targets.fails.0 < count old → inner.fails.0 < count one
  split_fails inner is holds fails = subst (λ (t : Targets). t.fails.0 < count one) (sym is)
      (inner_fails targets right (λ n. n < count one) (omega (arith, number_is, count_is))
      (omega (arith, holds, count_is)) (omega (arith, fails, count_is)) op)

  module _ (g : Setting) (two : VProc) (inner : Targets) (left : Typing) (e : Evaluation)
      (p : Tests g one two from inner left e) where
    pub split_waits : IsOpen two right.0
    split_waits =
        let same : block_of two right.0 ≡ open_block depth =
        p.grows.others right.0 (omega (arith, number_is, count_is))
        (λ z. absurd (omega (arith, z, number_is, o.0)))
        ∙ ap (λ z. block_of z right.0) opened ∙ ap (block_of (with_open_block depth old)) number_is
        ∙ opened_block depth old in
        (omega (arith, number_is, count_is, p.grows.grows.blocks), ap (λ b. b.end) same)

    pub split_tests : is_bitwise op ≡ true → inner ≡ inner_targets op right targets →
        (new : VProc) (right_typing : Typing) (f : Evaluation) →
        Tests g two new right.0 targets right_typing f → Tests g old new from targets
        (binary_typing op left right_typing) (joined op e f)
    split_tests bitwise is new right_typing f q = tests_split op g old one two new from depth right
        targets left right_typing e f o opened number_is
        (subst (λ t. Tests g one two from t left e) is p) q bitwise

-- another block is opened
pub beside_open : (depth : ℕ) (old : VProc) (at : ℕ) → IsOpen old at →
    IsOpen (with_open_block depth old) at
beside_open depth old at o = (
  omega (arith, o.0, opened_count depth old),
  ap (λ b. b.end) (opened_kept depth old at o.0)
      ∙ o.1,
)
