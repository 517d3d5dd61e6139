-- What is asked of the parts of a statement, and what statements of each form mean by their parts.
use Rattle.std.proofs.Common.{◌≡◌, ℕ, true, List, ◌∷◌, ◌++◌, map, sym, ap, ◌∙◌}
use Rattle.std.specs.Prelude.{◌&&◌, Option, Some, None, slice_get}
use Rattle.pra_list.proofs.Truths.{both_true}
use Rattle.pra_list.proofs.Choices.{and_true}
use Rattle.pra_base.specs.declared.ids.ProcId.{ProcId}
use Rattle.ob_syntax.specs.Expressions.{integer, boolean}
use Rattle.ob_syntax.specs.WellFormed.{joined, lent_by, lent_in}
use Rattle.ob_syntax.specs.declared.checked.Checked.{Checked}
use Rattle.ob_syntax.specs.declared.checked.CheckedProc.{CheckedProc}
use Rattle.ob_syntax.specs.declared.checked.RArg.{RArg}
use Rattle.ob_syntax.specs.declared.checked.RArm.{RArm, out-RArm}
use Rattle.ob_syntax.specs.declared.checked.RExpr.{RExpr}
use Rattle.ob_syntax.specs.declared.checked.RStmt.{RStmt}
use Rattle.ob_syntax.specs.declared.checked.RStmt.TheVariants as s
use Rattle.ob_syntax.specs.declared.checked.RVar.{RVar}
use Rattle.ob_syntax.specs.declared.checked.Root.{Root}
use Rattle.vc_typed.specs.TypedModules.{lent_in_all}
use Rattle.vc_typed.specs.TypedStatements.{all_true, is_assignable, is_call, is_typed, is_typed_arm}
use Rattle.vc_typed.specs.TypedStatements.{are_typed}
use Rattle.vc_typed.specs.Typing.{is_of, typing, variable_typing}
use Rattle.vc_typed.proofs.StatementEquations.{typed-Assign, typed-If, typed-While, typed-Repeat}
use Rattle.vc_typed.proofs.StatementEquations.{typed-Call, typed-Read, typed-Write, typed_arm-is}
use Rattle.vc_typed.proofs.StatementEquations.{lent-If, lent-While, lent-Repeat, lent-Call}
use Rattle.vc_typed.proofs.StatementEquations.{lent_behind-is, both_addressed}
use Rattle.vc_stmt.specs.Sound.{addressed_in, addressed, is_sound, are_sound, lent_behind}
use Rattle.vc_stmt.specs.Sound.{is_sound_arm, are_sound_arms}

module _ (program : Checked) (proc : ℕ) where
  apart : (p : Option CheckedProc) (xs ys : List Root) → addressed_in p (xs ++ ys) ≡ true →
      (addressed_in p xs ≡ true) × (addressed_in p ys ≡ true)
  apart None xs ys e = (e, e)
  apart (Some p) xs ys e = both_addressed p xs ys e

  pub parted : (xs ys : List Root) → addressed program proc (xs ++ ys) ≡ true →
      (addressed program proc xs ≡ true) × (addressed program proc ys ≡ true)
  parted xs ys e = apart (slice_get program.procs proc) xs ys e

  pub sound_first : (t : RStmt) (ts : List RStmt) → are_sound program proc (t ∷ ts) ≡ true →
      (is_sound program proc t ≡ true) × (are_sound program proc ts ≡ true)
  sound_first t ts e =
      let both = and_true (are_typed program proc (t ∷ ts))
      (addressed program proc (lent_in_all (t ∷ ts))) e in
      let typed = and_true (is_typed program proc t) (are_typed program proc ts) both.0 in
      let lent = parted (lent_in t) (lent_in_all ts) both.1 in (
        both_true (is_typed program proc t) (addressed program proc (lent_in t)) typed.0 lent.0,
        both_true (are_typed program proc ts) (addressed program proc (lent_in_all ts)) typed.1
            lent.1,
      )

  pub sound_first_arm : (arm : RArm) (arms : List RArm) → are_sound_arms program proc (arm ∷ arms) ≡
      true → (is_sound_arm program proc arm ≡ true) × (are_sound_arms program proc arms ≡ true)
  sound_first_arm arm arms e =
      let both = and_true (all_true (map (is_typed_arm program proc) (arm ∷ arms)))
      (addressed program proc (joined (map lent_behind (arm ∷ arms)))) e in
      let typed = and_true (is_typed_arm program proc arm)
      (all_true (map (is_typed_arm program proc) arms)) both.0 in
      let lent = parted (lent_behind arm) (joined (map lent_behind arms)) both.1 in (
        both_true (is_typed_arm program proc arm) (addressed program proc (lent_behind arm)) typed.0
            lent.0,
        both_true (all_true (map (is_typed_arm program proc) arms))
            (addressed program proc (joined (map lent_behind arms))) typed.1 lent.1,
      )

  pub sound_arm : (arm : RArm) → is_sound_arm program proc arm ≡ true →
      (is_of boolean (typing program proc (out-RArm arm).test) && are_sound program proc
      (out-RArm arm).body) ≡ true
  sound_arm arm e =
      let both = and_true (is_typed_arm program proc arm) (addressed program proc (lent_behind arm))
      e in
      let typed = and_true (is_of boolean (typing program proc (out-RArm arm).test))
      (are_typed program proc (out-RArm arm).body)
      (sym (typed_arm-is program proc arm) ∙ both.0) in
      both_true (is_of boolean (typing program proc (out-RArm arm).test))
      (are_sound program proc (out-RArm arm).body) typed.0
      (both_true (are_typed program proc (out-RArm arm).body)
      (addressed program proc (lent_in_all (out-RArm arm).body)) typed.1
      (sym (ap (addressed program proc) (lent_behind-is arm)) ∙ both.1))

  module _ (t : RStmt) (sound : is_sound program proc t ≡ true) where
    typed_is : is_typed program proc t ≡ true
    typed_is = (and_true (is_typed program proc t) (addressed program proc (lent_in t)) sound).0

    lends_is : addressed program proc (lent_in t) ≡ true
    lends_is = (and_true (is_typed program proc t) (addressed program proc (lent_in t)) sound).1

    pub sound_assign : (v : RVar) (e : RExpr) → t ≡ s.Assign v e →
        is_assignable (variable_typing program proc v) (typing program proc e) ≡ true
    sound_assign v e is = sym (typed-Assign program proc v e) ∙ sym (ap (is_typed program proc) is)
        ∙ typed_is

    pub sound_read : (v : RVar) → t ≡ s.Read v → is_of integer (variable_typing program proc v) ≡
        true
    sound_read v is = sym (typed-Read program proc v) ∙ sym (ap (is_typed program proc) is)
        ∙ typed_is

    pub sound_write : (e : RExpr) → t ≡ s.Write e → is_of integer (typing program proc e) ≡ true
    sound_write e is = sym (typed-Write program proc e) ∙ sym (ap (is_typed program proc) is)
        ∙ typed_is

    pub sound_while : (test : RExpr) (body : List RStmt) → t ≡ s.While test body →
        (is_of boolean (typing program proc test) && are_sound program proc body) ≡ true
    sound_while test body is =
        let typed = and_true (is_of boolean (typing program proc test))
        (are_typed program proc body)
        (sym (typed-While program proc test body) ∙ sym (ap (is_typed program proc) is)
        ∙ typed_is) in
        both_true (is_of boolean (typing program proc test)) (are_sound program proc body) typed.0
        (both_true (are_typed program proc body) (addressed program proc (lent_in_all body)) typed.1
        (sym (ap (addressed program proc) (lent-While test body))
        ∙ sym (ap (λ z. addressed program proc (lent_in z)) is) ∙ lends_is))

    pub sound_repeat : (body : List RStmt) (test : RExpr) → t ≡ s.Repeat body test →
        (are_sound program proc body && is_of boolean (typing program proc test)) ≡ true
    sound_repeat body test is =
        let typed = and_true (are_typed program proc body)
        (is_of boolean (typing program proc test))
        (sym (typed-Repeat program proc body test) ∙ sym (ap (is_typed program proc) is)
        ∙ typed_is) in
        both_true (are_sound program proc body) (is_of boolean (typing program proc test))
        (both_true (are_typed program proc body) (addressed program proc (lent_in_all body)) typed.0
        (sym (ap (addressed program proc) (lent-Repeat body test))
        ∙ sym (ap (λ z. addressed program proc (lent_in z)) is) ∙ lends_is))
        typed.1

    pub sound_if : (arms : List RArm) (other : List RStmt) → t ≡ s.If arms other →
        (are_sound_arms program proc arms && are_sound program proc other) ≡ true
    sound_if arms other is =
        let typed = and_true (all_true (map (is_typed_arm program proc) arms))
        (are_typed program proc other)
        (sym (typed-If program proc arms other) ∙ sym (ap (is_typed program proc) is)
        ∙ typed_is) in
        let lent = parted (joined (map lent_behind arms)) (lent_in_all other)
        (sym (ap (addressed program proc) (lent-If arms other))
        ∙ sym (ap (λ z. addressed program proc (lent_in z)) is) ∙ lends_is) in
        both_true (are_sound_arms program proc arms) (are_sound program proc other)
        (both_true (all_true (map (is_typed_arm program proc) arms))
        (addressed program proc (joined (map lent_behind arms))) typed.0 lent.0)
        (both_true (are_typed program proc other) (addressed program proc (lent_in_all other))
        typed.1 lent.1)

    pub sound_call : (callee : ProcId) (args : List RArg) → t ≡ s.Call callee args →
        (is_call program proc (slice_get program.procs callee.0) args && addressed program proc
        (lent_by args)) ≡ true
    sound_call callee args is =
        both_true (is_call program proc (slice_get program.procs callee.0) args)
        (addressed program proc (lent_by args))
        (sym (typed-Call program proc callee args) ∙ sym (ap (is_typed program proc) is) ∙ typed_is)
        (sym (ap (addressed program proc) (lent-Call callee args))
        ∙ sym (ap (λ z. addressed program proc (lent_in z)) is) ∙ lends_is)
