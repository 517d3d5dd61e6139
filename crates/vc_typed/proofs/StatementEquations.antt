-- Whether a statement of each form is typed, and what it lends, as equations.
use Rattle.std.proofs.Common.{◌≡◌, ℕ, Bool, true, false, ◌&&◌, List, [], ◌∷◌, ◌++◌, map, refl, ap}
use Rattle.std.proofs.Common.{sym, ◌∙◌}
use Rattle.std.specs.Prelude.{slice_get}
use Rattle.pra_base.specs.declared.ids.ProcId.{ProcId}
use Rattle.pra_list.proofs.Choices.{and_true}
use Rattle.ob_syntax.specs.Expressions.{integer, boolean}
use Rattle.ob_syntax.specs.WellFormed.{lent_by, joined, lent_step, lent_in_arm, lent_in}
use Rattle.ob_syntax.specs.declared.checked.Checked.{Checked}
use Rattle.ob_syntax.specs.declared.checked.CheckedProc.{CheckedProc}
use Rattle.ob_syntax.specs.declared.checked.RArg.{RArg}
use Rattle.ob_syntax.specs.declared.checked.RArm.{RArm, out-RArm, fold-RArm, fold_out-RArm}
use Rattle.ob_syntax.specs.declared.checked.RExpr.{RExpr}
use Rattle.ob_syntax.specs.declared.checked.RStmt.{RStmt, RStmt-F, roll-RStmt, map-RStmt}
use Rattle.ob_syntax.specs.declared.checked.RStmt.{fold-roll-RStmt}
use Rattle.ob_syntax.specs.declared.checked.RStmt.TheVariants as s
use Rattle.ob_syntax.specs.declared.checked.RVar.{RVar}
use Rattle.ob_syntax.specs.declared.checked.Root.{Root}
use Rattle.vc_typed.specs.TypedModules.{has_address, all_have_addresses, lent_in_all}
use Rattle.vc_typed.specs.TypedStatements.{all_true, is_assignable, is_call, is_typed_step}
use Rattle.vc_typed.specs.TypedStatements.{is_typed_arm_step, is_typed, is_typed_arm, are_typed}
use Rattle.vc_typed.specs.Typing.{is_of, typing, variable_typing}

-- ---- types

module _ (program : Checked) (proc : ℕ) where
  typed_roll : (y : RStmt-F RStmt RArm) → is_typed program proc (roll-RStmt y) ≡
      is_typed_step program proc
      (map-RStmt RStmt RArm Bool Bool (is_typed program proc) (is_typed_arm program proc) y)
  typed_roll = fold-roll-RStmt Bool Bool (is_typed_step program proc)
      (is_typed_arm_step program proc)

  pub typed-Assign : (v : RVar) (e : RExpr) → is_typed program proc (s.Assign v e) ≡
      is_assignable (variable_typing program proc v) (typing program proc e)
  typed-Assign v e = ap (is_typed program proc) (sym (s.rolls-Assign v e))
      ∙ typed_roll (RStmt-F.Assign v e)

  pub typed-If : (arms : List RArm) (other : List RStmt) → is_typed program proc (s.If arms other) ≡
      (all_true (map (is_typed_arm program proc) arms) && are_typed program proc other)
  typed-If arms other = ap (is_typed program proc) (sym (s.rolls-If arms other))
      ∙ typed_roll (RStmt-F.If arms other)

  pub typed-While : (test : RExpr) (body : List RStmt) → is_typed program proc (s.While test body) ≡
      (is_of boolean (typing program proc test) && are_typed program proc body)
  typed-While test body = ap (is_typed program proc) (sym (s.rolls-While test body))
      ∙ typed_roll (RStmt-F.While test body)

  pub typed-Repeat : (body : List RStmt) (test : RExpr) →
      is_typed program proc (s.Repeat body test) ≡
      (are_typed program proc body && is_of boolean (typing program proc test))
  typed-Repeat body test = ap (is_typed program proc) (sym (s.rolls-Repeat body test))
      ∙ typed_roll (RStmt-F.Repeat body test)

  pub typed-Call : (callee : ProcId) (args : List RArg) →
      is_typed program proc (s.Call callee args) ≡ is_call program proc
      (slice_get program.procs callee.0) args
  typed-Call callee args = ap (is_typed program proc) (sym (s.rolls-Call callee args))
      ∙ typed_roll (RStmt-F.Call callee args)

  pub typed-Read : (v : RVar) → is_typed program proc (s.Read v) ≡
      is_of integer (variable_typing program proc v)
  typed-Read v = ap (is_typed program proc) (sym (s.rolls-Read v)) ∙ typed_roll (RStmt-F.Read v)

  pub typed-Write : (e : RExpr) → is_typed program proc (s.Write e) ≡
      is_of integer (typing program proc e)
  typed-Write e = ap (is_typed program proc) (sym (s.rolls-Write e)) ∙ typed_roll (RStmt-F.Write e)

  pub typed-WriteLine : is_typed program proc s.WriteLine ≡ true
  typed-WriteLine = ap (is_typed program proc) (sym s.rolls-WriteLine)
      ∙ typed_roll RStmt-F.WriteLine

  pub typed_arm-is : (arm : RArm) → is_typed_arm program proc arm ≡
      (is_of boolean (typing program proc (out-RArm arm).test) && are_typed program proc
      (out-RArm arm).body)
  typed_arm-is arm = fold_out-RArm Bool Bool (is_typed_step program proc)
      (is_typed_arm_step program proc) arm

-- ---- what is lent

-- what the statements of an arm lend
abbrev pub lent_behind : RArm → List Root
lent_behind = fold-RArm (List Root) (List Root) lent_step lent_in_arm

lent_roll : (y : RStmt-F RStmt RArm) → lent_in (roll-RStmt y) ≡
    lent_step (map-RStmt RStmt RArm (List Root) (List Root) lent_in lent_behind y)
lent_roll = fold-roll-RStmt (List Root) (List Root) lent_step lent_in_arm

pub lent-If : (arms : List RArm) (other : List RStmt) → lent_in (s.If arms other) ≡
    joined (map lent_behind arms) ++ lent_in_all other
lent-If arms other = ap lent_in (sym (s.rolls-If arms other)) ∙ lent_roll (RStmt-F.If arms other)

pub lent-While : (test : RExpr) (body : List RStmt) → lent_in (s.While test body) ≡ lent_in_all body
lent-While test body = ap lent_in (sym (s.rolls-While test body))
    ∙ lent_roll (RStmt-F.While test body)

pub lent-Repeat : (body : List RStmt) (test : RExpr) → lent_in (s.Repeat body test) ≡
    lent_in_all body
lent-Repeat body test = ap lent_in (sym (s.rolls-Repeat body test))
    ∙ lent_roll (RStmt-F.Repeat body test)

pub lent-Call : (callee : ProcId) (args : List RArg) → lent_in (s.Call callee args) ≡ lent_by args
lent-Call callee args = ap lent_in (sym (s.rolls-Call callee args))
    ∙ lent_roll (RStmt-F.Call callee args)

pub lent-Assign : (v : RVar) (e : RExpr) → lent_in (s.Assign v e) ≡ []
lent-Assign v e = ap lent_in (sym (s.rolls-Assign v e)) ∙ lent_roll (RStmt-F.Assign v e)

pub lent-Read : (v : RVar) → lent_in (s.Read v) ≡ []
lent-Read v = ap lent_in (sym (s.rolls-Read v)) ∙ lent_roll (RStmt-F.Read v)

pub lent-Write : (e : RExpr) → lent_in (s.Write e) ≡ []
lent-Write e = ap lent_in (sym (s.rolls-Write e)) ∙ lent_roll (RStmt-F.Write e)

pub lent-WriteLine : lent_in s.WriteLine ≡ []
lent-WriteLine = ap lent_in (sym s.rolls-WriteLine) ∙ lent_roll RStmt-F.WriteLine

pub lent_behind-is : (arm : RArm) → lent_behind arm ≡ lent_in_all (out-RArm arm).body
lent_behind-is arm = fold_out-RArm (List Root) (List Root) lent_step lent_in_arm arm

-- ---- addresses of what is lent

module _ (proc : CheckedProc) where
  pub addresses-append : (xs ys : List Root) → all_have_addresses proc (xs ++ ys) ≡
      (all_have_addresses proc xs && all_have_addresses proc ys)
  addresses-append [] ys = refl
  addresses-append (x ∷ xs) ys = ap (λ b. has_address proc x && b) (addresses-append xs ys)
      ∙ sym (assoc (has_address proc x) (all_have_addresses proc xs) (all_have_addresses proc ys))
    where
      assoc : (a b c : Bool) → ((a && b) && c) ≡ (a && (b && c))
      assoc true b c = refl
      assoc false b c = refl

  -- what is lent by statements one after the other
  pub both_addressed : (xs ys : List Root) → all_have_addresses proc (xs ++ ys) ≡ true →
      (all_have_addresses proc xs ≡ true) × (all_have_addresses proc ys ≡ true)
  both_addressed xs ys all = and_true (all_have_addresses proc xs) (all_have_addresses proc ys)
      (sym (addresses-append xs ys) ∙ all)
