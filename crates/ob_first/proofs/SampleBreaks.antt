-- The sample breaks three rules, and the first is told.
use Rattle.std.proofs.Common.{◌≡◌, inl, inr, [], refl, ap, sym, subst, ◌∙◌}
use Rattle.std.specs.Prelude.{Ok, Err}
use Rattle.ob_syntax.specs.declared.checked.RArm.{RArm}
use Rattle.ob_syntax.specs.declared.checked.RStmt.{RStmt}
use Rattle.ob_syntax.specs.declared.tree.Decls.{fold-roll-Decls}
use Rattle.ob_syntax.specs.declared.tree.Stmt.{out-Stmt, out-roll-Stmt, fold-roll-Stmt}
use Rattle.ob_syntax.specs.declared.tree.StmtForm.{StmtForm-F, out-StmtForm, out-roll-StmtForm}
use Rattle.ob_syntax.specs.declared.tree.StmtForm.{fold-StmtForm, fold-roll-StmtForm}
use Rattle.ob_syntax.specs.declared.tree.StmtForm.TheVariants as form
use Rattle.ob_syntax.specs.Declarations.{DeclsResult, ProcResult, decls_step, proc_step}
use Rattle.ob_syntax.specs.Declarations.{declarations, beginning, reading}
use Rattle.ob_syntax.specs.Derives.{Derives}
use Rattle.ob_syntax.specs.Forms.{Form, made, done, taken, part}
use Rattle.ob_syntax.specs.Grammar as g
use Rattle.ob_syntax.specs.Statements.{Judge, StmtResult, stmt_form, arm_step, stmt_step, statement}
use Rattle.ob_syntax.specs.Whole.{kinds}
use Rattle.ob_first.specs.Sample.{bytes, tokens, nothing, call, broken}
use Rattle.ob_first.specs.InDeclarations.{PlaceBehind, behind_step, behind_proc_step}
use Rattle.ob_first.specs.InDeclarations.{behind_declarations}
use Rattle.ob_first.specs.InStatements.{StatementFails, layer, InStatement, itself}
use Rattle.ob_first.specs.Breaks.{Breaks, IsFirst}
use Rattle.ob_first.proofs.OneIsTold.{one_told}

the_declarations : Form g.Declarations
the_declarations = made _ g.declarations
    (part _ _ _ (made _ g.no_constants done) (part _ _ _ (made _ g.no_types done)
    (part _ _ _ (made _ g.no_variables done) (part _ _ _ (made _ g.no_procedures done) done))))

the_call : Form g.Action
the_call = made _ g.call (taken _ _ (part _ _ _ (made _ g.no_parameters done) done))

the_body : Form g.Body
the_body = made _ g.body
    (taken _ _ (part _ _ _ (made _ g.statement_sequence
    (part _ _ _ (made _ g.statement (part _ _ _ the_call done)) (part _ _ _ (made _ g.next_statement
    (taken _ _ (part _ _ _ (made _ g.statement (part _ _ _ the_call done))
    (part _ _ _ (made _ g.last_statement done) done)))) done))) done))

the_form : Form g.Module
the_form = made _ g.a_module
    (taken _ _ (taken _ _ (taken _ _
    (part _ _ _ the_declarations (part _ _ _ the_body (taken _ _ (taken _ _ (taken _ _ done))))))))

pub derived : Derives g.Module (kinds tokens) broken
unfolding the_form the_body the_call the_declarations
derived = (the_form, refl, refl)

nothing_read : declarations nothing (beginning bytes tokens) ≡
    Ok (record { place = beginning bytes tokens; vars = []; procs = [] })
nothing_read = ap (λ (r : DeclsResult). r (beginning bytes tokens))
    (fold-roll-Decls DeclsResult ProcResult decls_step proc_step _)

nothing_behind : behind_declarations nothing (beginning bytes tokens) ≡ Ok (beginning bytes tokens)
nothing_behind = ap (λ (r : PlaceBehind). r (beginning bytes tokens))
    (fold-roll-Decls PlaceBehind PlaceBehind behind_step behind_proc_step _)

call_read : statement (call 4) (beginning bytes tokens) ≡ Err (5, 4)
call_read = ap (λ (r : Judge RStmt). r (beginning bytes tokens))
    (fold-roll-Stmt StmtResult (Judge RArm) (Judge RStmt) stmt_form arm_step stmt_step _
    ∙ ap (λ (r : StmtResult). r 4)
    (ap (fold-StmtForm StmtResult (Judge RArm) (Judge RStmt) stmt_form arm_step stmt_step)
    (sym (form.rolls-Call 4 [])) ∙ fold-roll-StmtForm StmtResult (Judge RArm) (Judge RStmt)
    stmt_form arm_step stmt_step (StmtForm-F.Call 4 [])))

call_layer : layer (call 6) ≡ StmtForm-F.Call 6 []
call_layer =
    ap (λ z. out-StmtForm z.form)
    (out-roll-Stmt (record { span = record { first = 6; last = 6 }; form = form.Call 6 [] }))
    ∙ ap out-StmtForm (sym (form.rolls-Call 6 [])) ∙ out-roll-StmtForm (StmtForm-F.Call 6 [])

call_breaks : InStatement (beginning bytes tokens) (call 6) (5, 6)
call_breaks = itself (call 6) (5, 6)
    (subst (λ y. StatementFails (beginning bytes tokens) (out-Stmt (call 6)).span.last y (5, 6))
    (sym call_layer) (inl refl))

told : reading bytes tokens broken ≡ Err (5, 4)
told = simp (nothing_read, call_read) refl

pub first : IsFirst bytes tokens broken 5 4
first = (one_told bytes tokens broken (kinds tokens) derived 5 4).0 told

pub second : Breaks bytes tokens broken 5 6
second = inr (inl (beginning bytes tokens, nothing_behind, (call 6, inr (inl refl), call_breaks)))

pub third : Breaks bytes tokens broken 1 8
third = inr (inr (beginning bytes tokens, nothing_behind, refl))
