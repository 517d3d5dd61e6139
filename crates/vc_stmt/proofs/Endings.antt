-- What the functions that add code leave, by what their calls leave.
use Rattle.std.proofs.Common.{◌≡◌, ℕ, ◌<◌, ◌≤◌, true, length, sym, ap, ◌∙◌, subst}
use Rattle.pra_base.specs.Code.{kind_of}
use Rattle.pra_base.specs.declared.ids.VarId.{VarId}
use Rattle.pra_base.specs.declared.code.Addr.{Addr}
use Rattle.pra_base.specs.declared.code.VarKind.{VarKind}
use Rattle.pra_base.specs.declared.code.VarKind.TheVariants.{Plain}
use Rattle.pra_base.specs.declared.code.VInstr.{VInstr}
use Rattle.pra_base.specs.declared.code.VInstr.TheVariants.{Store, Read, Write, Line}
use Rattle.pra_base.specs.declared.code.VProc.{VProc}
use Rattle.ob_syntax.specs.Expressions.{integer}
use Rattle.ob_syntax.specs.declared.checked.RExpr.{RExpr}
use Rattle.ob_syntax.specs.declared.checked.RStmt.{RStmt-F}
use Rattle.ob_mean.specs.Expressions.{value}
use Rattle.ob_mean.specs.Statements.{stmt_step}
use Rattle.vc_build.specs.Grow.{IsOpen, with_instr, with_variable}
use Rattle.vc_expr.specs.Operators.{first_of}
use Rattle.vc_select.specs.declared.target.Setting.{Setting}
use Rattle.vc_select.specs.declared.target.Target.{Target}
use Rattle.vc_select.specs.declared.target.Target.TheVariants.{Var, Memory}
use Rattle.vc_select.specs.Selects.{Selects}
use Rattle.vc_select.specs.Targets.{above_target}
use Rattle.vc_typed.specs.Typing.{typing, is_of}
use Rattle.vc_stmt.specs.Does.{Does}
use Rattle.vc_stmt.specs.Stores.{Stores, Reads}
use Rattle.vc_stmt.proofs.Reading.{reads_variable, reads_word}
use Rattle.vc_stmt.proofs.Storing.{stores_itself, stores_variable, stores_word}
use Rattle.vc_stmt.proofs.Writing.{does_line, does_write}

module _ (g : Setting) where
  pub line_done : (old new : VProc) (at : ℕ) → IsOpen old at → new ≡ with_instr at Line old →
      Does g old new at at true (stmt_step g.program.now RStmt-F.WriteLine)
  line_done old new at o is =
      subst (λ (z : VProc). Does g old z at at true (stmt_step g.program.now RStmt-F.WriteLine))
      (sym is) (does_line g old at o)

  pub write_done : (old mid new : VProc) (from to : ℕ) (v : VarId) (e : RExpr) →
      Selects g old mid from to v.0 (typing g.program.now g.id.0 e) (value g.program.now e) →
      new ≡ with_instr to (Write v) mid →
      Does g old new from to (is_of integer (typing g.program.now g.id.0 e))
      (stmt_step g.program.now (RStmt-F.Write e))
  write_done old mid new from to v e p is =
      subst (λ (z : VProc). Does g old z from to (is_of integer (typing g.program.now g.id.0 e))
      (stmt_step g.program.now (RStmt-F.Write e))) (sym is) (does_write g old mid from to v e p)

  pub copy_itself : (old : VProc) (at : ℕ) (u v : VarId) → IsOpen old at → u.0 ≡ v.0 →
      Stores g at old old (Var u) v.0
  copy_itself old at u v o is = subst (λ z. Stores g at old old (Var u) z) is
      (stores_itself g old at u o)

  pub copy_done : (old new : VProc) (at : ℕ) (u v : VarId) (kind : VarKind) (i : VInstr) →
      IsOpen old at → v.0 < length old.vars → kind ≡ kind_of old v.0 → i ≡ first_of kind u v →
      new ≡ with_instr at i old → Stores g at old new (Var u) v.0
  copy_done old new at u v kind i o declared kind_is i_is is =
      subst (λ (z : VProc). Stores g at old z (Var u) v.0)
      (sym (is ∙ ap (λ j. with_instr at j old) i_is))
      (stores_variable g old at u v o declared kind (sym kind_is))

  pub store_done : (old new : VProc) (at : ℕ) (target : Target) (a : Addr) (v : VarId) →
      target ≡ Memory a → IsOpen old at → new ≡ with_instr at (Store a v) old →
      Stores g at old new target v.0
  store_done old new at target a v target_is o is =
      subst (λ (t : Target). Stores g at old new t v.0) (sym target_is)
      (subst (λ (z : VProc). Stores g at old z (Memory a) v.0) (sym is)
      (stores_word g old at a v o))

  pub read_done : (old new : VProc) (at : ℕ) (target : Target) (u : VarId) → target ≡ Var u →
      IsOpen old at → new ≡ with_instr at (Read u) old → Reads g at old new target
  read_done old new at target u target_is o is =
      subst (λ (t : Target). Reads g at old new t) (sym target_is)
      (subst (λ (z : VProc). Reads g at old z (Var u)) (sym is) (reads_variable g old at u o))

  pub read_word_done : (old new : VProc) (at : ℕ) (target : Target) (a : Addr) (t : VarId) →
      target ≡ Memory a → IsOpen old at → above_target target ≤ length old.vars →
      new ≡ with_instr at (Store a t) (with_instr at (Read t) (with_variable Plain old)) →
      t.0 ≡ length old.vars → Reads g at old new target
  read_word_done old new at target a t target_is o named is number =
      subst (λ (z : Target). Reads g at old new z) (sym target_is)
      (subst (λ (z : VProc). Reads g at old z (Memory a)) (sym is)
      (reads_word g old at a t o number
      (subst (λ (z : Target). above_target z ≤ length old.vars) target_is named)))
