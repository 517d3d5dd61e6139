-- Instructions that only tell an event: Write and WriteLn.
use Rattle.std.proofs.Common.{◌≡◌, ℕ, suc, true, List, [], ◌∷◌, ◌++◌, length, Some, refl, sym, ap}
use Rattle.std.proofs.Common.{◌∙◌, subst, arith, length-append}
use Rattle.pra_base.specs.Code as code
use Rattle.pra_base.specs.Operands.{written_by}
use Rattle.pra_base.specs.declared.event.OutEvent.{OutEvent}
use Rattle.pra_base.specs.declared.event.OutEvent.TheVariants as event
use Rattle.pra_base.specs.declared.ids.VarId.{VarId}
use Rattle.pra_base.specs.declared.code.VInstr.{VInstr}
use Rattle.pra_base.specs.declared.code.VInstr.TheVariants.{Write, Line}
use Rattle.pra_base.specs.declared.code.VProc.{VProc}
use Rattle.ob_syntax.specs.Expressions.{integer}
use Rattle.ob_syntax.specs.Operators.{number}
use Rattle.ob_syntax.specs.declared.checked.RExpr.{RExpr}
use Rattle.ob_syntax.specs.declared.checked.RStmt.{RStmt-F}
use Rattle.ob_mean.specs.Expressions.{value}
use Rattle.ob_mean.specs.Statements as mean
use Rattle.ob_mean.specs.Statements.{Around, Execution, Normal, with, stmt_step}
use Rattle.ob_mean.specs.declared.store.LiveCall.{LiveCall}
use Rattle.vc_code.specs.declared.action.Action.TheVariants.{Tell}
use Rattle.vc_code.specs.Machine.{Activation, State, here, apply, found, with_top, with_event}
use Rattle.vc_code.specs.Operation.{operate}
use Rattle.vc_code.specs.Selected.{Vars, selected, code_of, shape, at_point, written}
use Rattle.vc_build.specs.Grow.{IsOpen, with_instr, Grows}
use Rattle.vc_build.specs.Runs.{Codes, runs, acted}
use Rattle.vc_build.proofs.Growth.{grows_on, put_code, put_open, put_grows}
use Rattle.vc_build.proofs.Steps.{performs}
use Rattle.vc_expr.proofs.Relations.{back}
use Rattle.vc_expr.proofs.Starts.{reads_are}
use Rattle.vc_select.specs.declared.target.Setting.{Setting}
use Rattle.vc_select.specs.Selects.{Selects, Results}
use Rattle.vc_select.proofs.Keeping.{extends_on, extends_at}
use Rattle.vc_select.proofs.Sides.{of_type}
use Rattle.vc_typed.specs.Typing.{typing, is_of}
use Rattle.vc_stmt.specs.Completes.{Completes}
use Rattle.vc_stmt.specs.Does.{Matches, Does}
use Rattle.vc_stmt.proofs.Completing.{completes_value}
use Rattle.vc_stmt.proofs.Matching.{starts_with, matches_but, matches_on}

-- ---- an instruction that tells an event

module _ (g : Setting) (w : Codes) (old : VProc) (at : ℕ) (calls : List LiveCall)
    (waiting : List Vars) (m : mean.State) (s : State Vars)
    (matches : Matches g w old at calls waiting m s)
    (i : VInstr) (e : OutEvent) (o : IsOpen old at)
    (grows : Grows (with_instr at i old) (code_of w.procs g.id.0)) (writes : written_by i ≡ [])
    (acts : acted w i s ≡ Some (Tell e)) where
  abbrev behind_it : Activation Vars
  behind_it = at_point s.top s.top.home.block (suc s.top.home.index) s.top.home.held

  tells_it : runs w 1 s ≡ with_event e s behind_it
  tells_it =
      performs w g.id.0 at old s o matches.starts.stands i
      (starts_with g w old at calls waiting m s matches (with_instr at i old) grows).runs
      ∙ ap (λ a. apply (selected w.procs w.frames) (λ xs. written s.top (written_by i) xs) a s) acts
      ∙ ap (λ vs. found s (written s.top vs []) (with_event e s)) writes

  matches_told : Matches g w (with_instr at i old) at calls waiting (mean.written m e)
      (with_event e s behind_it)
  matches_told =
      matches_but g w old at calls waiting m s matches (with_event e s behind_it)
      (with_instr at i old) at (mean.written m e) refl matches.starts.runs.going refl refl refl
      refl
      (record {
        block = matches.starts.stands.block;
        index = omega (
          arith,
          matches.starts.stands.index,
          ap (λ l. length l) (put_code at i old o),
          length-append (code.code_of old at) (i ∷ []),
        );
      })
      matches.starts.homes
      (record {
        input = matches.shows.input;
        words = matches.shows.words;
        events =
            ap (λ es. es ++ e ∷ []) matches.shows.events;
        taken = matches.shows.taken;
      })
      refl (record { proc = refl; aggregates = refl; args = refl; below = refl; globals = refl })
      (λ u lt. refl)

  pub tells : (least : ℕ) → Completes w s least (Matches g w (with_instr at i old) at calls waiting)
      (Normal (mean.written m e))
  tells least = record {
    steps = 1;
    enough = omega arith;
    good =
        subst (Matches g w (with_instr at i old) at calls waiting (mean.written m e)) (sym tells_it)
        matches_told;
  }

-- ---- WriteLn

pub does_line : (g : Setting) (old : VProc) (at : ℕ) → IsOpen old at →
    Does g old (with_instr at Line old) at at true (stmt_step g.program.now RStmt-F.WriteLine)
does_line g old at o = record {
  extends = extends_at at old (with_instr at Line old) (put_grows at Line old o)
      (put_open at Line old o);
  means = λ w least a waiting m s final matches typed le follow. tells g w old at a.calls waiting m
      s matches Line event.Line o final refl refl least;
}

-- ---- Write

module _ (g : Setting) (old mid : VProc) (from to : ℕ) (v : VarId) (e : RExpr)
    (p : Selects g old mid from to v.0 (typing g.program.now g.id.0 e) (value g.program.now e))
  where
    abbrev new : VProc
    new = with_instr to (Write v) mid

    pub does_write : Does g old new from to (is_of integer (typing g.program.now g.id.0 e))
        (stmt_step g.program.now (RStmt-F.Write e))
    does_write = record {
      extends = extends_on from to to old mid new p.extends
          (extends_at to mid new (put_grows to (Write v) mid p.extends.is_open)
          (put_open to (Write v) mid p.extends.is_open));
      means = λ w least a waiting m s final matches typed le follow.
          let first = length old.vars in
          let mid_final = grows_on mid new (code_of w.procs g.id.0)
          (put_grows to (Write v) mid p.extends.is_open).grows final in
          completes_value w s least m
          (Results w g.id.0 mid to v.0 first s.top (typing g.program.now g.id.0 e).type_id)
          (Matches g w new to a.calls waiting) (value g.program.now e a.calls m.store)
          (λ y. Normal (mean.written m (event.Number (number y)))) matches.shows
          (p.means w a.calls m.store s
          (starts_with g w old from a.calls waiting m s matches mid mid_final)
          (of_type integer (typing g.program.now g.id.0 e) typed).0)
          (λ y c found.
          let t = with_top s c in
          let here_now = matches_on g w old from a.calls waiting m s matches first c mid to
          matches.starts.homes found.gives.holds.same found.gives.holds.stands
          (omega (arith, matches.starts.homes, p.extends.grows.grows.vars)) in
          tells g w mid to a.calls waiting m t here_now (Write v) (event.Number (number y))
          p.extends.is_open final refl
          (ap (λ held. operate (here (shape w.procs w.frames) t) (Write v) held)
          (reads_are w g.id.0 t here_now.starts.runs.proc (v.0 ∷ [])
          ∙ ap (λ h. h ∷ []) found.gives.holds.value)
          ∙ ap (λ n. Some (Tell (event.Number n))) (back (number y) found.gives.fits))
          least);
    }
