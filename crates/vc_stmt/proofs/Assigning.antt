-- Assignment: the location of the target, then the value, then the store.
use Rattle.std.proofs.Common.{ℕ, ◌≤◌, length, ◌∙◌, arith}
use Rattle.std.specs.Prelude.{◌&&◌}
use Rattle.pra_list.proofs.Choices.{and_true}
use Rattle.pra_base.specs.declared.code.VProc.{VProc}
use Rattle.ob_syntax.specs.WellFormed.{is_scalar}
use Rattle.ob_syntax.specs.declared.checked.RExpr.{RExpr}
use Rattle.ob_syntax.specs.declared.checked.RStmt.{RStmt-F}
use Rattle.ob_syntax.specs.declared.checked.RVar.{RVar}
use Rattle.ob_mean.specs.Expressions.{value, location}
use Rattle.ob_mean.specs.Statements.{Normal, with, store_at, stmt_step}
use Rattle.vc_code.specs.Machine.{with_top}
use Rattle.vc_code.specs.Selected.{code_of}
use Rattle.vc_build.proofs.Growth.{grows_on}
use Rattle.vc_select.specs.declared.target.Setting.{Setting}
use Rattle.vc_select.specs.declared.target.Target.{Target}
use Rattle.vc_select.specs.Selects.{Selects, Results, Locates, Finds}
use Rattle.vc_select.specs.Targets.{above_target}
use Rattle.vc_select.proofs.Keeping.{extends_on, extends_at, named_on}
use Rattle.vc_select.proofs.Sides.{of_type}
use Rattle.vc_typed.specs.Typing.{Typing, typing, variable_typing, is_of}
use Rattle.vc_typed.specs.TypedStatements.{is_assignable}
use Rattle.vc_stmt.specs.Does.{Matches, Does}
use Rattle.vc_stmt.specs.Stores.{Stores}
use Rattle.vc_stmt.proofs.Completing.{completes_value}
use Rattle.vc_stmt.proofs.Matching.{starts_with, matches_on}
use Rattle.vc_stmt.proofs.Storing.{value_typed}

module _ (g : Setting) (old one two new : VProc) (from between to u : ℕ) (target : Target)
    (v : RVar) (e : RExpr)
    (p : Locates g old one from between target (variable_typing g.program.now g.id.0 v)
    (location g.program.now v)) (named : above_target target ≤ length one.vars)
    (q : Selects g one two between to u (typing g.program.now g.id.0 e) (value g.program.now e))
    (r : Stores g to two new target u) where
  abbrev left : Typing
  left = variable_typing g.program.now g.id.0 v

  abbrev right : Typing
  right = typing g.program.now g.id.0 e

  pub does_assign : Does g old new from to (is_assignable left right)
      (stmt_step g.program.now (RStmt-F.Assign v e))
  does_assign = record {
    extends = extends_on from to to old two new
        (extends_on from between to old one two p.extends q.extends)
        (extends_at to two new r.grows r.is_open);
    means = λ w least a waiting m s final matches typed le follow.
        let goods = and_true left.good (is_scalar left.type_id && is_of left.type_id right) typed in
        let types = and_true (is_scalar left.type_id) (is_of left.type_id right) goods.1 in
        let value_type = of_type left.type_id right types.1 in
        let R = Matches g w new to a.calls waiting in
        let two_final = grows_on two new (code_of w.procs g.id.0) r.grows.grows final in
        let one_final = grows_on one two (code_of w.procs g.id.0) q.extends.grows.grows two_final in
        completes_value w s least m
        (Finds g w one between a.calls s (length old.vars) target left.type_id) R
        (location g.program.now v a.calls m.store)
        (λ l. with (value g.program.now e a.calls m.store) m (λ y. Normal (store_at m l y)))
        matches.shows
        (p.means w a.calls m.store s
        (starts_with g w old from a.calls waiting m s matches one one_final) goods.0)
        (λ l c found.
        let at_one = matches_on g w old from a.calls waiting m s matches (length old.vars) c one
        between matches.starts.homes found.same found.stands
        (omega (arith, matches.starts.homes, p.extends.grows.grows.vars)) in
        completes_value w (with_top s c) least m
        (Results w g.id.0 two to u (length one.vars) c right.type_id) R
        (value g.program.now e a.calls m.store) (λ y. Normal (store_at m l y)) at_one.shows
        (q.means w a.calls m.store (with_top s c)
        (starts_with g w one between a.calls waiting m (with_top s c) at_one two two_final)
        value_type.0)
        (λ y d has.
        let at_two = matches_on g w one between a.calls waiting m (with_top s c) at_one
        (length one.vars) d two to at_one.starts.homes has.gives.holds.same
        has.gives.holds.stands (omega (arith, at_one.starts.homes, q.extends.grows.grows.vars))
        in
        r.means w a.calls waiting m (with_top s d) l left.type_id y final at_two
        (named_on w (length one.vars) (with_top s c) d has.gives.holds.same g.program.now a.calls
        target l left.type_id named found.named) types.0
        (record { fits = has.gives.fits; held = has.gives.holds.value })
        (value_typed left.type_id y has.gives.fits (λ is. has.bit (value_type.1 ∙ is)))));
  }
