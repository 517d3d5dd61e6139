use Rattle.std.proofs.Common.{◌≡◌, length, ap, sym, ◌∙◌, subst}
use Rattle.std.proofs.lemmas.List.{get_or_read}
use Rattle.pra_base.specs.Code.{kind_of}
use Rattle.pra_base.specs.declared.code.VarKind.TheVariants.{Plain}
use Rattle.pra_base.specs.declared.code.VProc.{VProc}
use Rattle.vc_build.specs.Grow.{with_instr, with_variable}
use Rattle.vc_expr.specs.Operators.{first_of, Begins}
use Rattle.vc_expr.proofs.Starts.{begins_new}
use Rattle.vc_expr.specs.Rules.{StaysValid}
use Rattle.vc_expr.specs.Readable.{ReadsOperands}
use Rattle.vc_expr.proofs.Added.{start_valid}
use Rattle.vc_expr.proofs.Published.{start_publishes}
use Rattle.vc_expr.specs.Counts.{OperationAdds}
use Rattle.vc_expr.proofs.Counting.{starts_itself, starts_new}
use Rattle.vc_expr.specs.Operators.{is_temporary}
use Rattle.vc_expr.proofs.start.start.Goals as goal

pub returns-clause-begins : goal.returns-clause-begins
returns-clause-begins c =
    let old = c.args.code.now in
    let kind = c.index-kind.result.now in
    let target = c.in_ok-target.target in
    let is : kind ≡ kind_of old c.args.v.0 = get_or_read old.vars c.args.v.0 kind c.requires.named
    c.index-kind.ensures Plain in
    let made : c.put.new.code ≡ with_instr c.args.at.0 (first_of kind target c.args.v)
    (with_variable Plain old) =
    c.in_ok-put.ensures ∙ ap (λ i. with_instr c.args.at.0 i c.declare.new.code) c.first_of.ensures
    ∙ ap (with_instr c.args.at.0 (first_of kind target c.args.v)) c.in_ok-target.ensures.made in
    subst (λ (z : VProc). Begins c.args.first c.args.at.0 old z c.args.v.0 target.0) (sym made)
    (begins_new c.args.first c.args.at.0 old c.args.v target c.requires.is_open c.requires.named
    c.requires.first c.in_ok-target.ensures.number kind (sym is))

pub returns-clause-valid : goal.returns-clause-valid
returns-clause-valid c =
    let old = c.args.code.now in
    let kind = c.index-kind.result.now in
    let target = c.in_ok-target.target in
    let is : kind ≡ kind_of old c.args.v.0 = get_or_read old.vars c.args.v.0 kind c.requires.named
    c.index-kind.ensures Plain in
    let made : c.put.new.code ≡ with_instr c.args.at.0 (first_of kind target c.args.v)
    (with_variable Plain old) =
    c.in_ok-put.ensures ∙ ap (λ i. with_instr c.args.at.0 i c.declare.new.code) c.first_of.ensures
    ∙ ap (with_instr c.args.at.0 (first_of kind target c.args.v)) c.in_ok-target.ensures.made in
    subst (λ (z : VProc). StaysValid old z) (sym made)
    (start_valid c.args.at.0 old c.args.v target c.requires.is_open c.requires.named
    c.in_ok-target.ensures.number kind (sym is))

pub returns-clause-reads : goal.returns-clause-reads
returns-clause-reads c =
    let old = c.args.code.now in
    let kind = c.index-kind.result.now in
    let target = c.in_ok-target.target in
    let made : c.put.new.code ≡ with_instr c.args.at.0 (first_of kind target c.args.v)
    (with_variable Plain old) =
    c.in_ok-put.ensures ∙ ap (λ i. with_instr c.args.at.0 i c.declare.new.code) c.first_of.ensures
    ∙ ap (with_instr c.args.at.0 (first_of kind target c.args.v)) c.in_ok-target.ensures.made in
    subst (λ (z : VProc). ReadsOperands (length old.vars) c.args.at.0 old z c.args.v.0 c.args.v.0
    target.0) (sym made) (start_publishes (length old.vars) c.args.at.0 old c.requires.is_open
    kind target c.args.v)

pub returns-then-is_temporary-clause-counts : goal.returns-then-is_temporary-clause-counts
returns-then-is_temporary-clause-counts c = starts_itself c.args.code.now c.args.first c.args.v.0

pub returns-clause-counts : goal.returns-clause-counts
returns-clause-counts c =
    let old = c.args.code.now in
    let kind = c.index-kind.result.now in
    let is : kind ≡ kind_of old c.args.v.0 = get_or_read old.vars c.args.v.0 kind c.requires.named
    c.index-kind.ensures Plain in
    let made : c.put.new.code ≡ with_instr c.args.at.0 c.first_of.result (with_variable Plain old) =
    c.in_ok-put.ensures ∙ ap (with_instr c.args.at.0 c.first_of.result) c.in_ok-target.ensures.made
    in
    subst (λ (z : VProc). OperationAdds 0 0 0 c.args.first c.args.v.0 old z) (sym made)
    (starts_new c.args.at.0 c.first_of.result old c.args.first c.args.v.0 c.requires.is_open
    (ap (λ k. is_temporary k c.args.first c.args.v.0) (sym is) ∙ sym c.is_temporary.ensures
    ∙ c.if-is_temporary.false))
