-- The checker answers the sample.
use Rattle.std.proofs.Common.{arith, ◌≡◌, ℕ, ◌+◌, List, [], ◌∷◌, map, refl, ap, sym, ◌∙◌}
use Rattle.std.specs.Prelude.{Ok}
use Rattle.pra_list.specs.Results.{◌>>=◌}
use Rattle.ob_check.specs.Checking.{IsChecked}
use Rattle.ob_syntax.specs.Declarations.{Declared, DeclsResult, ProcResult, decls_step, proc_step}
use Rattle.ob_syntax.specs.Declarations.{declarations, closed, nodes_of, span_nodes, with_nodes}
use Rattle.ob_syntax.specs.Declarations.{drafted, beginning, Reading, reading}
use Rattle.ob_syntax.specs.Names.{Judged, Place}
use Rattle.ob_syntax.specs.Statements.{Judge, StmtResult, stmt_form, arm_step, stmt_step, statement}
use Rattle.ob_syntax.specs.Statements.{each}
use Rattle.ob_syntax.specs.declared.checked.RArm.{RArm}
use Rattle.ob_syntax.specs.declared.checked.RStmt.{RStmt}
use Rattle.ob_syntax.specs.declared.checked.RStmt.TheVariants.{WriteLine}
use Rattle.ob_syntax.specs.declared.tree.Arm.{Arm}
use Rattle.ob_syntax.specs.declared.tree.Decls.{fold-roll-Decls}
use Rattle.ob_syntax.specs.declared.tree.Stmt.{Stmt, Stmt-F, fold-roll-Stmt, out-roll-Stmt}
use Rattle.ob_syntax.specs.declared.tree.StmtForm.{StmtForm, StmtForm-F, fold-StmtForm}
use Rattle.ob_syntax.specs.declared.tree.StmtForm.{fold-roll-StmtForm}
use Rattle.ob_syntax.specs.declared.tree.StmtForm.TheVariants as forms
use Rattle.ob_syntax.specs.Forms.{Form, made, done, taken, part}
use Rattle.ob_syntax.specs.Grammar as g
use Rattle.ob_syntax.specs.Whole.{kinds, most_nesting, IsTreeOf}
use Rattle.ob_syntax.specs.declared.token.Kind.TheVariants.{Ident, KwModule, KwBegin, KwEnd}
use Rattle.ob_syntax.specs.declared.token.Kind.TheVariants.{Semicolon, Period}
use Rattle.vc_checked.specs.Sample.{source, tokens, no_declarations, write_line, tree, read}
use Rattle.vc_checked.specs.Sample.{checked}

decls_are : declarations no_declarations (beginning source tokens) ≡
    Ok (record { place = beginning source tokens; vars = []; procs = [] })
decls_are = ap (λ (f : DeclsResult). f (beginning source tokens))
    (fold-roll-Decls DeclsResult ProcResult decls_step proc_step
    (record { consts = []; types = []; vars = []; procs = [] }))

abbrev form_of : StmtForm → StmtResult
form_of = fold-StmtForm StmtResult (Judge RArm) (Judge RStmt) stmt_form arm_step stmt_step

statement_is : statement write_line (beginning source tokens) ≡ Ok WriteLine
statement_is =
    ap (λ (f : Judge RStmt). f (beginning source tokens))
    (fold-roll-Stmt StmtResult (Judge RArm) (Judge RStmt) stmt_form arm_step stmt_step
    (record { span = record { first = 4; last = 4 }; form = forms.Call 4 [] }))
    ∙ ap (λ (f : StmtResult). f 4 (beginning source tokens))
    (ap form_of (sym (forms.rolls-Call 4 [])) ∙ fold-roll-StmtForm StmtResult (Judge RArm)
    (Judge RStmt) stmt_form arm_step stmt_step (StmtForm-F.Call 4 []))

nodes_are : nodes_of tokens (write_line ∷ []) ≡ 1
nodes_are = ap (λ (z : Stmt-F StmtForm Arm Stmt). span_nodes tokens z.span + 0)
    (out-roll-Stmt (record { span = record { first = 4; last = 4 }; form = forms.Call 4 [] }))

abbrev result : Place → ℕ → List RStmt → Reading
result end n read_as = record {
  place = with_nodes end n;
  vars = [];
  procs =
      drafted 0 1 [] [] n read_as ∷ [];
}

sample_read : reading source tokens tree ≡ Ok read
sample_read =
    ap (λ (z : Judged Declared). z >>= λ d. each d.place [] (map statement tree.body) >>= λ read_as.
    closed 1 d.place 1 6 >>= λ end.
    Ok (record {
      place = with_nodes end (nodes_of tokens tree.body);
      vars = d.vars;
      procs =
          drafted 0 1 [] [] (nodes_of tokens tree.body) read_as ∷ d.procs;
    })) decls_are
    ∙ ap (λ (z : Judged RStmt). (z >>= λ one. Ok (one ∷ [])) >>= λ read_as. closed 1
    (beginning source tokens) 1 6 >>= λ end. Ok
    (result end (nodes_of tokens tree.body) read_as)) statement_is
    ∙ ap (λ n. Ok (result (beginning source tokens) n (WriteLine ∷ []))) nodes_are

pub sample_checked : IsChecked source tokens tree checked
sample_checked = record {
  reading = read;
  well_formed = sample_read;
  within = refl;
  checked_is =
      refl;
}

-- ---- the productions

abbrev declarations_form : Form g.Declarations
declarations_form =
    made g.Declarations g.declarations
    (part g.level g.Constants _ (made g.Constants g.no_constants done)
    (part g.level g.Types _ (made g.Types g.no_types done)
    (part g.level g.Variables _ (made g.Variables g.no_variables done)
    (part g.level g.Procedures _ (made g.Procedures g.no_procedures done) done))))

abbrev call_form : Form g.Action
call_form = made g.Action g.call
    (taken Ident _ (part g.level g.ActualParameters _ (made g.ActualParameters g.no_parameters done)
    done))

abbrev sequence_form : Form g.StatementSequence
sequence_form =
    made g.StatementSequence g.statement_sequence
    (part g.level g.Statement _
    (made g.Statement g.statement (part g.deeper g.Action _ call_form done))
    (part g.level g.Statements _ (made g.Statements g.last_statement done) done))

abbrev body_form : Form g.Body
body_form = made g.Body g.body
    (taken KwBegin _ (part g.level g.StatementSequence _ sequence_form done))

abbrev module_form : Form g.Module
module_form =
    made g.Module g.a_module
    (taken KwModule _ (taken Ident _ (taken Semicolon _
    (part g.level g.Declarations _ declarations_form
    (part g.level g.Body _ body_form (taken KwEnd _ (taken Ident _ (taken Period _ done))))))))

pub sample_derived : IsTreeOf most_nesting (kinds tokens) tree
sample_derived = (module_form, refl, omega arith, refl)
