-- What is kept of statements, by what the calls of the walk leave.
use Rattle.std.proofs.Common.{◌≡◌, ◌≢◌, ℕ, ◌+◌, ◌<◌, Bool, true, false, List, [], ◌∷◌, map, length}
use Rattle.std.proofs.Common.{drop, get_or, refl, sym, ap, ◌∙◌, subst, arith}
use Rattle.pra_list.proofs.Choices.{and_true}
use Rattle.pra_base.specs.declared.code.VProc.{VProc}
use Rattle.ob_syntax.specs.Expressions.{boolean}
use Rattle.ob_syntax.specs.declared.checked.RArm.{RArm, out-RArm}
use Rattle.ob_syntax.specs.declared.checked.RStmt.{RStmt}
use Rattle.ob_syntax.specs.declared.checked.RStmt.TheVariants as s
use Rattle.ob_mean.specs.Statements.{Run, chosen, arm_of, exec, exec_all}
use Rattle.ob_mean.proofs.Equations.{in_turn-all, exec-If}
use Rattle.vc_build.specs.Grow.{count}
use Rattle.vc_expr.specs.Counts.{AddsAtMost}
use Rattle.vc_select.specs.declared.target.Setting.{Setting}
use Rattle.vc_select.specs.Selects.{Extends}
use Rattle.vc_select.proofs.Arms.{next_item}
use Rattle.vc_typed.specs.Nodes.{nodes_in, nodes_in_stmt, nodes_in_arm, nodes_in_all}
use Rattle.vc_typed.specs.Typing.{typing, is_of}
use Rattle.vc_typed.proofs.NodeEquations.{nodes-If}
use Rattle.vc_stmt.specs.Amounts.{AddsForStatements, nodes_in_arms, AddsForArms}
use Rattle.vc_stmt.specs.Does.{Does}
use Rattle.vc_stmt.specs.Ready.{KeepsReady, KeepsReadyBeside}
use Rattle.vc_stmt.specs.Sound.{is_sound, are_sound, is_sound_arm, are_sound_arms}
use Rattle.vc_stmt.proofs.Amounting.{statement_adds, arm_is, if_adds}
use Rattle.vc_stmt.proofs.Proceeding.{keeps_as, keeps_nothing, keeps_then, beside_nothing}
use Rattle.vc_stmt.proofs.Proceeding.{beside_then}
use Rattle.vc_stmt.proofs.Sequences.{does_as}
use Rattle.vc_stmt.proofs.Sounds.{sound_first, sound_first_arm, sound_arm, sound_if}

some_arms : (arms : List RArm) → arms ≢ [] → 0 < length arms
some_arms [] some = absurd (some refl)
some_arms (a ∷ arms) some = omega arith

pub not_empty : (b : Bool) → b ≡ false → b ≡ true → ⊥
not_empty b f t = cc

module _ (g : Setting) where
  -- ---- sequences

  pub none_ready : (old : VProc) (at : ℕ) (body : List RStmt) →
      KeepsReady g old old at at (are_sound g.program.now g.id.0 body)
  none_ready old at body = keeps_nothing g old at (are_sound g.program.now g.id.0 body)

  pub more_ready : (old mid new : VProc) (from between to : ℕ) (all : List RStmt) (i : ℕ)
      (t : RStmt) → i < length all → t ≡ get_or all i t → Extends from between old mid →
      KeepsReady g old mid from between (is_sound g.program.now g.id.0 t) →
      KeepsReady g mid new between to (are_sound g.program.now g.id.0 (drop (i + 1) all)) →
      KeepsReady g old new from to (are_sound g.program.now g.id.0 (drop i all))
  more_ready old mid new from between to all i t lt is e p q =
      let rest = drop (i + 1) all in
      subst (λ (z : List RStmt). KeepsReady g old new from to (are_sound g.program.now g.id.0 z))
      (sym (next_item all i t lt is))
      (keeps_then g old mid new from between to e (is_sound g.program.now g.id.0 t)
      (are_sound g.program.now g.id.0 rest) (are_sound g.program.now g.id.0 (t ∷ rest))
      (sound_first g.program.now g.id.0 t rest) p q)

  -- ---- arms

  pub no_arms_ready : (old : VProc) (at behind : ℕ) (arms : List RArm) →
      KeepsReadyBeside g old old at at behind (are_sound_arms g.program.now g.id.0 arms)
  no_arms_ready old at behind arms = beside_nothing g old at behind
      (are_sound_arms g.program.now g.id.0 arms)

  pub more_arms_ready : (old mid new : VProc) (from between to behind : ℕ) (all : List RArm) (i : ℕ)
      (arm : RArm) → i < length all → arm ≡ get_or all i arm → behind < count old →
      Extends from between old mid → KeepsReadyBeside g old mid from between behind
      (is_sound_arm g.program.now g.id.0 arm) →
      KeepsReadyBeside g mid new between to behind
      (are_sound_arms g.program.now g.id.0 (drop (i + 1) all)) →
      KeepsReadyBeside g old new from to behind
      (are_sound_arms g.program.now g.id.0 (drop i all))
  more_arms_ready old mid new from between to behind all i arm lt is there e p q =
      let rest = drop (i + 1) all in
      subst (λ (z : List RArm). KeepsReadyBeside g old new from to behind
      (are_sound_arms g.program.now g.id.0 z)) (sym (next_item all i arm lt is))
      (beside_then g old mid new from between to e behind (is_sound_arm g.program.now g.id.0 arm)
      (are_sound_arms g.program.now g.id.0 rest)
      (are_sound_arms g.program.now g.id.0 (arm ∷ rest)) there
      (sound_first_arm g.program.now g.id.0 arm rest) p q)

  pub arm_goods : (arm : RArm) (body : List RStmt) → body ≡ (out-RArm arm).body →
      is_sound_arm g.program.now g.id.0 arm ≡ true →
      (is_of boolean (typing g.program.now g.id.0 (out-RArm arm).test) ≡ true) ×
      (are_sound g.program.now g.id.0 body ≡ true)
  arm_goods arm body same e =
      let both = and_true (is_of boolean (typing g.program.now g.id.0 (out-RArm arm).test))
      (are_sound g.program.now g.id.0 (out-RArm arm).body)
      (sound_arm g.program.now g.id.0 arm e) in
      (both.0, ap (are_sound g.program.now g.id.0) same ∙ both.1)

  pub arm_nodes_are : (arm : RArm) (body : List RStmt) → body ≡ (out-RArm arm).body →
      nodes_in_arm arm ≡ 1 + nodes_in (out-RArm arm).test + nodes_in_all body
  arm_nodes_are arm body same = arm_is arm
      ∙ ap (λ z. 1 + nodes_in (out-RArm arm).test + nodes_in_all z) (sym same)

  -- ---- IF

  module _ (t : RStmt) (arms arms' : List RArm) (other other' : List RStmt)
      (is : t ≡ s.If arms other) (arms_are : arms' ≡ arms) (other_is : other' ≡ other) where
    if_nodes : nodes_in_stmt t ≡ nodes_in_arms arms' + nodes_in_all other'
    if_nodes = ap nodes_in_stmt is ∙ nodes-If arms other
        ∙ ap (λ z. nodes_in_arms z + nodes_in_all other) (sym arms_are)
        ∙ ap (λ z. nodes_in_arms arms' + nodes_in_all z) (sym other_is)

    pub if_goods : is_sound g.program.now g.id.0 t ≡ true →
        (are_sound_arms g.program.now g.id.0 arms' ≡ true) ×
        (are_sound g.program.now g.id.0 other' ≡ true)
    if_goods sound =
        let both = and_true (are_sound_arms g.program.now g.id.0 arms)
        (are_sound g.program.now g.id.0 other)
        (sound_if g.program.now g.id.0 t sound arms other is) in (
          ap (are_sound_arms g.program.now g.id.0) arms_are ∙ both.0,
          ap (are_sound g.program.now g.id.0) other_is ∙ both.1,
        )

    pub if_counts : (old m1 m2 m3 new : VProc) → arms ≢ [] → AddsAtMost 0 0 0 1 old m1 →
        AddsForArms arms' m1 m2 → AddsForStatements (nodes_in_all other') m2 m3 →
        AddsAtMost 0 0 0 0 m3 new → AddsForStatements (nodes_in_stmt t) old new
    if_counts old m1 m2 m3 new some a b c d =
        statement_adds (nodes_in_stmt t) (nodes_in_arms arms' + nodes_in_all other') old new
        if_nodes (if_adds arms' (nodes_in_all other') old m1 m2 m3 new
        (some_arms arms' (λ e. some (sym arms_are ∙ e))) a b c d)

  -- without arms there is nothing but the other statements
  module _ (t : RStmt) (arms : List RArm) (other other' : List RStmt) (is : t ≡ s.If arms other)
      (none : arms ≡ []) (other_is : other' ≡ other) (old new : VProc) (from to : ℕ) where
    pub else_does : Does g old new from to (are_sound g.program.now g.id.0 other')
        (exec_all g.program.now other') → Does g old new from to (is_sound g.program.now g.id.0 t)
        (exec g.program.now t)
    else_does q =
        does_as g old new from to (are_sound g.program.now g.id.0 other')
        (is_sound g.program.now g.id.0 t) (exec_all g.program.now other') (exec g.program.now t)
        (λ sound. (if_goods t arms arms other other' is refl other_is sound).1)
        (λ a m. ap (λ z. exec g.program.now z a m) is ∙ exec-If g.program.now arms other a m
        ∙ ap (λ z. chosen (map (arm_of g.program.now) z) (map (exec g.program.now) other) a m)
        none
        ∙ ap (λ (f : Run). f m) (in_turn-all g.program.now other a)
        ∙ ap (λ z. exec_all g.program.now z a m) (sym other_is)) q

    pub else_counts : AddsForStatements (nodes_in_all other') old new →
        AddsForStatements (nodes_in_stmt t) old new
    else_counts a =
        let nodes = if_nodes t arms arms other other' is refl other_is in
        statement_adds (nodes_in_stmt t) (nodes_in_all other') old new
        (omega (arith, nodes, ap nodes_in_arms none)) a

    pub else_ready : KeepsReady g old new from to (are_sound g.program.now g.id.0 other') →
        KeepsReady g old new from to (is_sound g.program.now g.id.0 t)
    else_ready q = keeps_as g old new from to (are_sound g.program.now g.id.0 other')
        (is_sound g.program.now g.id.0 t)
        (λ sound. (if_goods t arms arms other other' is refl other_is sound).1) q
