-- The code of a statement of each form does what the statement means.
use Rattle.std.proofs.Common.{◌≡◌, ◌≢◌, ℕ, ◌+◌, ◌<◌, ◌≤◌, Bool, true, List, [], ◌∷◌, map, length}
use Rattle.std.proofs.Common.{drop, get_or, refl, sym, ap, ◌∙◌, subst}
use Rattle.std.specs.Prelude.{◌&&◌, slice_get}
use Rattle.std.proofs.lemmas.List.{drop_all}
use Rattle.pra_list.proofs.Truths.{both_true}
use Rattle.pra_base.specs.declared.ids.ProcId.{ProcId}
use Rattle.pra_base.specs.Code.{block_of}
use Rattle.pra_base.specs.declared.ids.BlockId.{BlockId}
use Rattle.pra_base.specs.declared.code.End.TheVariants.{Jump}
use Rattle.pra_base.specs.declared.code.VProc.{VProc}
use Rattle.ob_syntax.specs.Expressions.{integer, boolean}
use Rattle.ob_syntax.specs.WellFormed.{lent_by}
use Rattle.ob_syntax.specs.declared.checked.RArg.{RArg}
use Rattle.ob_syntax.specs.declared.checked.RArm.{RArm, out-RArm, fold_out-RArm}
use Rattle.ob_syntax.specs.declared.checked.RExpr.{RExpr}
use Rattle.ob_syntax.specs.declared.checked.RStmt.{RStmt, RStmt-F}
use Rattle.ob_syntax.specs.declared.checked.RStmt.TheVariants as s
use Rattle.ob_syntax.specs.declared.checked.RVar.{RVar}
use Rattle.ob_mean.specs.Expressions.{value}
use Rattle.ob_mean.specs.Statements as mean
use Rattle.ob_mean.specs.Statements.{Around, Execution, Arm, Run, then_do, in_turn, chosen}
use Rattle.ob_mean.specs.Statements.{stmt_step, arm_step, arm_of, exec, exec_all}
use Rattle.ob_mean.proofs.Equations.{in_turn-all, exec-Assign, exec-If, exec-While, exec-Repeat}
use Rattle.ob_mean.proofs.Equations.{exec-Call, exec-Read, exec-Write, exec-WriteLine}
use Rattle.vc_build.specs.Grow.{count, IsOpen, with_open_block, with_end}
use Rattle.vc_expr.specs.declared.branch.Targets.{Targets}
use Rattle.vc_select.specs.declared.target.Setting.{Setting}
use Rattle.vc_select.specs.Selects.{Tests}
use Rattle.vc_select.proofs.Arms.{next_item}
use Rattle.vc_typed.specs.TypedStatements.{is_assignable, is_call}
use Rattle.vc_typed.specs.Typing.{is_of, typing, variable_typing}
use Rattle.vc_stmt.specs.Arms.{Guards, Chooses}
use Rattle.vc_stmt.specs.Blocks.{Waits, with_arm}
use Rattle.vc_stmt.specs.Does.{Does}
use Rattle.vc_stmt.specs.Loops.{while_of, repeat_of}
use Rattle.vc_stmt.specs.Sound.{addressed, is_sound, are_sound, is_sound_arm, are_sound_arms}
use Rattle.vc_stmt.proofs.Sequences.{does_as, does_nothing, does_then}
use Rattle.vc_stmt.proofs.Choosing.{guards_as, guards_arm, chooses_as, chooses_none, chooses_more}
use Rattle.vc_stmt.proofs.Choosing.{joins_last, does_if}
use Rattle.vc_stmt.proofs.Sounds.{sound_first, sound_first_arm, sound_arm, sound_assign, sound_read}
use Rattle.vc_stmt.proofs.Sounds.{sound_write, sound_while, sound_repeat, sound_if, sound_call}

module _ (g : Setting) (old new : VProc) (from to : ℕ) (t : RStmt) where
  pub statement_assign : (v : RVar) (e : RExpr) → t ≡ s.Assign v e →
      Does g old new from to (is_assignable (variable_typing g.program.now g.id.0 v)
      (typing g.program.now g.id.0 e)) (stmt_step g.program.now (RStmt-F.Assign v e)) →
      Does g old new from to (is_sound g.program.now g.id.0 t) (exec g.program.now t)
  statement_assign v e is p =
      does_as g old new from to
      (is_assignable (variable_typing g.program.now g.id.0 v) (typing g.program.now g.id.0 e))
      (is_sound g.program.now g.id.0 t) (stmt_step g.program.now (RStmt-F.Assign v e))
      (exec g.program.now t)
      (λ sound. sound_assign g.program.now g.id.0 t sound v e is)
      (λ a m. ap (λ z. exec g.program.now z a m) is ∙ exec-Assign g.program.now v e a m) p

  pub statement_read : (v : RVar) → t ≡ s.Read v →
      Does g old new from to (is_of integer (variable_typing g.program.now g.id.0 v))
      (stmt_step g.program.now (RStmt-F.Read v)) →
      Does g old new from to (is_sound g.program.now g.id.0 t) (exec g.program.now t)
  statement_read v is p =
      does_as g old new from to (is_of integer (variable_typing g.program.now g.id.0 v))
      (is_sound g.program.now g.id.0 t) (stmt_step g.program.now (RStmt-F.Read v))
      (exec g.program.now t)
      (λ sound. sound_read g.program.now g.id.0 t sound v is)
      (λ a m. ap (λ z. exec g.program.now z a m) is ∙ exec-Read g.program.now v a m) p

  pub statement_write : (e : RExpr) → t ≡ s.Write e →
      Does g old new from to (is_of integer (typing g.program.now g.id.0 e))
      (stmt_step g.program.now (RStmt-F.Write e)) →
      Does g old new from to (is_sound g.program.now g.id.0 t) (exec g.program.now t)
  statement_write e is p =
      does_as g old new from to (is_of integer (typing g.program.now g.id.0 e))
      (is_sound g.program.now g.id.0 t) (stmt_step g.program.now (RStmt-F.Write e))
      (exec g.program.now t)
      (λ sound. sound_write g.program.now g.id.0 t sound e is)
      (λ a m. ap (λ z. exec g.program.now z a m) is ∙ exec-Write g.program.now e a m) p

  pub statement_line : t ≡ s.WriteLine → Does g old new from to true
      (stmt_step g.program.now RStmt-F.WriteLine) →
      Does g old new from to (is_sound g.program.now g.id.0 t) (exec g.program.now t)
  statement_line is p =
      does_as g old new from to true (is_sound g.program.now g.id.0 t)
      (stmt_step g.program.now RStmt-F.WriteLine) (exec g.program.now t)
      (λ sound. refl) (λ a m. ap (λ z. exec g.program.now z a m) is ∙ exec-WriteLine g.program.now a
      m) p

  pub statement_while : (test : RExpr) (body : List RStmt) → t ≡ s.While test body →
      Does g old new from to (is_of boolean (typing g.program.now g.id.0 test) && are_sound
      g.program.now g.id.0 body) (while_of (value g.program.now test) (exec_all g.program.now body))
      →
      Does g old new from to (is_sound g.program.now g.id.0 t) (exec g.program.now t)
  statement_while test body is p =
      does_as g old new from to
      (is_of boolean (typing g.program.now g.id.0 test) && are_sound g.program.now g.id.0 body)
      (is_sound g.program.now g.id.0 t)
      (while_of (value g.program.now test) (exec_all g.program.now body)) (exec g.program.now t)
      (λ sound. sound_while g.program.now g.id.0 t sound test body is)
      (λ a m. ap (λ z. exec g.program.now z a m) is ∙ exec-While g.program.now test body a m) p

  pub statement_repeat : (body : List RStmt) (test : RExpr) → t ≡ s.Repeat body test →
      Does g old new from to (are_sound g.program.now g.id.0 body && is_of boolean
      (typing g.program.now g.id.0 test))
      (repeat_of (exec_all g.program.now body) (value g.program.now test)) →
      Does g old new from to (is_sound g.program.now g.id.0 t) (exec g.program.now t)
  statement_repeat body test is p =
      does_as g old new from to
      (are_sound g.program.now g.id.0 body && is_of boolean (typing g.program.now g.id.0 test))
      (is_sound g.program.now g.id.0 t)
      (repeat_of (exec_all g.program.now body) (value g.program.now test))
      (exec g.program.now t)
      (λ sound. sound_repeat g.program.now g.id.0 t sound body test is)
      (λ a m. ap (λ z. exec g.program.now z a m) is ∙ exec-Repeat g.program.now body test a m) p

module _ (g : Setting) (old new : VProc) (from to : ℕ) (t : RStmt) where
  pub statement_call : (callee : ProcId) (args : List RArg) → t ≡ s.Call callee args →
      Does g old new from to (is_call g.program.now g.id.0 (slice_get g.program.now.procs callee.0)
      args && addressed g.program.now g.id.0 (lent_by args))
      (stmt_step g.program.now (RStmt-F.Call callee args)) →
      Does g old new from to (is_sound g.program.now g.id.0 t) (exec g.program.now t)
  statement_call callee args is p =
      does_as g old new from to
      (is_call g.program.now g.id.0 (slice_get g.program.now.procs callee.0) args && addressed
      g.program.now g.id.0 (lent_by args)) (is_sound g.program.now g.id.0 t)
      (stmt_step g.program.now (RStmt-F.Call callee args)) (exec g.program.now t)
      (λ sound. sound_call g.program.now g.id.0 t sound callee args is)
      (λ a m. ap (λ z. exec g.program.now z a m) is ∙ exec-Call g.program.now callee args a m) p

-- ---- sequences, item by item

pub sequence_done : (g : Setting) (old : VProc) (at : ℕ) (all : List RStmt) (i : ℕ) →
    IsOpen old at → length all ≤ i →
    Does g old old at at (are_sound g.program.now g.id.0 (drop i all))
    (exec_all g.program.now (drop i all))
sequence_done g old at all i o past =
    subst (λ z. Does g old old at at (are_sound g.program.now g.id.0 z) (exec_all g.program.now z))
    (sym (drop_all i all past))
    (does_as g old old at at true (are_sound g.program.now g.id.0 []) (λ a m. mean.Normal m)
    (exec_all g.program.now []) (λ sound. refl) (λ a m. refl) (does_nothing g old at o))

pub sequence_more : (g : Setting) (old mid new : VProc) (from between to : ℕ) (all : List RStmt)
    (i : ℕ) (t : RStmt) → i < length all → t ≡ get_or all i t → Does g old mid from between
    (is_sound g.program.now g.id.0 t) (exec g.program.now t) →
    Does g mid new between to (are_sound g.program.now g.id.0 (drop (i + 1) all))
    (exec_all g.program.now (drop (i + 1) all)) →
    Does g old new from to (are_sound g.program.now g.id.0 (drop i all))
    (exec_all g.program.now (drop i all))
sequence_more g old mid new from between to all i t lt is p q =
    subst (λ z. Does g old new from to (are_sound g.program.now g.id.0 z)
    (exec_all g.program.now z)) (sym (next_item all i t lt is))
    (does_then g old mid new from between to (is_sound g.program.now g.id.0 t)
    (are_sound g.program.now g.id.0 (drop (i + 1) all))
    (are_sound g.program.now g.id.0 (t ∷ drop (i + 1) all)) (exec g.program.now t)
    (exec_all g.program.now (drop (i + 1) all))
    (sound_first g.program.now g.id.0 t (drop (i + 1) all)) p q)

-- ---- IF

pub in_turn_body : (g : Setting) (old new : VProc) (from to : ℕ) (body : List RStmt) →
    Does g old new from to (are_sound g.program.now g.id.0 body) (exec_all g.program.now body) →
    Does g old new from to (are_sound g.program.now g.id.0 body)
    (in_turn (map (exec g.program.now) body))
in_turn_body g old new from to body q =
    does_as g old new from to (are_sound g.program.now g.id.0 body)
    (are_sound g.program.now g.id.0 body) (exec_all g.program.now body)
    (in_turn (map (exec g.program.now) body)) (λ sound. sound)
    (λ a m. ap (λ (f : Run). f m) (in_turn-all g.program.now body a)) q

module _ (g : Setting) where
  abbrev sounds : List RArm → Bool
  sounds arms = are_sound_arms g.program.now g.id.0 arms

  abbrev meanings : List RArm → List Arm
  meanings arms = map (arm_of g.program.now) arms

  pub arms_done : (old : VProc) (at behind : ℕ) (all : List RArm) (i : ℕ) → IsOpen old at →
      length all ≤ i → Chooses g old old at at behind (sounds (drop i all)) (meanings (drop i all))
  arms_done old at behind all i o past =
      subst (λ z. Chooses g old old at at behind (sounds z) (meanings z))
      (sym (drop_all i all past))
      (chooses_as g old old at at behind true (sounds []) [] (λ sound. refl)
      (chooses_none g old at behind o))

  pub arms_more : (old mid new : VProc) (from between next behind : ℕ) (all : List RArm) (i : ℕ)
      (arm : RArm) → i < length all → arm ≡ get_or all i arm → Waits old behind → Waits mid behind →
      Guards g old mid from between behind (is_sound_arm g.program.now g.id.0 arm)
      (arm_of g.program.now arm) → Chooses g mid new between next behind
      (sounds (drop (i + 1) all)) (meanings (drop (i + 1) all)) →
      Chooses g old new from next behind (sounds (drop i all)) (meanings (drop i all))
  arms_more old mid new from between next behind all i arm lt is waits waits_mid p q =
      let rest = drop (i + 1) all in
      subst (λ z. Chooses g old new from next behind (sounds z) (meanings z))
      (sym (next_item all i arm lt is))
      (chooses_as g old new from next behind (is_sound_arm g.program.now g.id.0 arm && sounds rest)
      (sounds (arm ∷ rest)) (meanings (arm ∷ rest))
      (λ sound. let both = sound_first_arm g.program.now g.id.0 arm rest sound in
      both_true (is_sound_arm g.program.now g.id.0 arm) (sounds rest) both.0 both.1)
      (chooses_more g old mid new from between next behind (is_sound_arm g.program.now g.id.0 arm)
      (sounds rest) (arm_of g.program.now arm) (meanings rest) waits waits_mid p q))

  pub arm_guards : (old m2 m3 : VProc) (from to : ℕ) (behind : BlockId) (targets : Targets)
      (arm : RArm) → (o : IsOpen old from) (waits : Waits old behind.0) (apart : behind.0 ≢ from)
      (real : behind.0 ≢ 0) (fails_is : targets.fails.0 ≡ count old)
      (holds_is : targets.holds.0 ≡ count old + 1) →
      Tests g (with_arm (block_of old from).depth old) m2 from targets
      (typing g.program.now g.id.0 (out-RArm arm).test)
      (value g.program.now (out-RArm arm).test) →
      Does g m2 m3 targets.holds.0 to (are_sound g.program.now g.id.0 (out-RArm arm).body)
      (exec_all g.program.now (out-RArm arm).body) →
      Guards g old (with_end to (Jump behind) m3) from targets.fails.0 behind.0
      (is_sound_arm g.program.now g.id.0 arm) (arm_of g.program.now arm)
  arm_guards old m2 m3 from to behind targets arm o waits apart real fails_is holds_is p q =
      let test = (out-RArm arm).test in
      let body = (out-RArm arm).body in
      let is : arm_of g.program.now arm ≡ (value g.program.now test, map (exec g.program.now) body)
      = fold_out-RArm Execution Arm (stmt_step g.program.now) (arm_step g.program.now) arm in
      subst (Guards g old (with_end to (Jump behind) m3) from targets.fails.0 behind.0
      (is_sound_arm g.program.now g.id.0 arm)) (sym is)
      (guards_as g old (with_end to (Jump behind) m3) from targets.fails.0 behind.0
      (is_of boolean (typing g.program.now g.id.0 test) && are_sound g.program.now g.id.0 body)
      (is_sound_arm g.program.now g.id.0 arm)
      (value g.program.now test, map (exec g.program.now) body)
      (sound_arm g.program.now g.id.0 arm)
      (guards_arm g old m2 m3 from to behind targets.holds targets.fails
      (typing g.program.now g.id.0 test) (are_sound g.program.now g.id.0 body)
      (value g.program.now test, map (exec g.program.now) body) o waits apart real fails_is
      holds_is p
      (does_as g m2 m3 targets.holds.0 to (are_sound g.program.now g.id.0 body)
      (are_sound g.program.now g.id.0 body) (exec_all g.program.now body)
      (in_turn (map (exec g.program.now) body)) (λ sound. sound)
      (λ a m. ap (λ (f : Run). f m) (in_turn-all g.program.now body a)) q)))

  pub statement_if : (old mid last : VProc) (from next to : ℕ) (behind : BlockId) (arms : List RArm)
      (other : List RStmt) (t : RStmt) → t ≡ s.If arms other → IsOpen old from → behind.0 ≡
      count old → Waits mid behind.0 → behind.0 ≢ 0 →
      Chooses g (with_open_block (block_of old from).depth old) mid from next behind.0 (sounds arms)
      (meanings arms) → Does g mid last next to (are_sound g.program.now g.id.0 other)
      (exec_all g.program.now other) →
      Does g old (with_end to (Jump behind) last) from behind.0 (is_sound g.program.now g.id.0 t)
      (exec g.program.now t)
  statement_if old mid last from next to behind arms other t is o behind_is waits real p q =
      let new = with_end to (Jump behind) last in
      let rest = does_as g mid last next to (are_sound g.program.now g.id.0 other)
      (are_sound g.program.now g.id.0 other) (exec_all g.program.now other)
      (in_turn (map (exec g.program.now) other)) (λ sound. sound)
      (λ a m. ap (λ (f : Run). f m) (in_turn-all g.program.now other a)) q in
      let joined = p.joins new (are_sound g.program.now g.id.0 other)
      (map (exec g.program.now) other)
      (joins_last g mid last next to behind (are_sound g.program.now g.id.0 other)
      (in_turn (map (exec g.program.now) other)) waits real rest) in
      does_as g old new from behind.0 (sounds arms && are_sound g.program.now g.id.0 other)
      (is_sound g.program.now g.id.0 t)
      (chosen (meanings arms) (map (exec g.program.now) other)) (exec g.program.now t)
      (λ sound. sound_if g.program.now g.id.0 t sound arms other is)
      (λ a m. ap (λ z. exec g.program.now z a m) is ∙ exec-If g.program.now arms other a m)
      (does_if g old new from behind.0 (sounds arms && are_sound g.program.now g.id.0 other)
      (chosen (meanings arms) (map (exec g.program.now) other)) o behind_is joined)
