use Rattle.std.proofs.Common.{◌≡◌, ap, sym, ◌∙◌, subst}
use Rattle.pra_base.specs.declared.code.VInstr.TheVariants.{CmpSet}
use Rattle.pra_base.specs.declared.code.VarKind.TheVariants.{Plain}
use Rattle.pra_base.specs.declared.code.VProc.{VProc}
use Rattle.vc_build.specs.Grow.{with_instr, with_variable}
use Rattle.vc_expr.specs.Operators.{condition_of, Operates}
use Rattle.vc_expr.proofs.Relations.{operates_relation}
use Rattle.vc_expr.specs.Rules.{StaysValid}
use Rattle.vc_expr.specs.Readable.{ReadsOperands}
use Rattle.vc_expr.proofs.Added.{relation_valid}
use Rattle.vc_expr.proofs.Published.{relation_publishes}
use Rattle.vc_expr.specs.Counts.{AddsAtMost}
use Rattle.vc_expr.proofs.Counting.{set_adds}
use Rattle.vc_expr.proofs.relation.select_relation.Goals as goal

pub returns-clause-operates : goal.returns-clause-operates
returns-clause-operates c =
    let old = c.args.code.now in
    let target = c.in_ok-target.target in
    let made : c.put.new.code ≡ with_instr c.args.at.0
    (CmpSet (condition_of c.args.op) target c.args.left c.args.right)
    (with_variable Plain old) =
    c.in_ok-put.ensures ∙ ap (λ k. with_instr c.args.at.0 (CmpSet k target c.args.left c.args.right)
    c.declare.new.code) c.condition_of.ensures
    ∙ ap (with_instr c.args.at.0 (CmpSet (condition_of c.args.op) target c.args.left c.args.right))
    c.in_ok-target.ensures.made in
    subst (λ (z : VProc). Operates c.args.op c.args.first c.args.at.0 old z c.args.left.0
    c.args.right.0 target.0) (sym made)
    (operates_relation c.args.op c.requires.op c.args.first c.args.at.0 old target c.args.left
    c.args.right c.requires.is_open c.in_ok-target.ensures.number c.requires.first)

pub returns-clause-valid : goal.returns-clause-valid
returns-clause-valid c =
    let old = c.args.code.now in
    let target = c.in_ok-target.target in
    let made : c.put.new.code ≡ with_instr c.args.at.0
    (CmpSet c.condition_of.result target c.args.left c.args.right) (with_variable Plain old) =
    c.in_ok-put.ensures ∙ ap (with_instr c.args.at.0
    (CmpSet c.condition_of.result target c.args.left c.args.right)) c.in_ok-target.ensures.made
    in
    subst (λ (z : VProc). StaysValid old z) (sym made)
    (relation_valid c.args.at.0 old c.args.left target c.requires.is_open c.requires.left
    c.in_ok-target.ensures.number c.condition_of.result c.args.right c.requires.right)

pub returns-clause-reads : goal.returns-clause-reads
returns-clause-reads c =
    let old = c.args.code.now in
    let target = c.in_ok-target.target in
    let made : c.put.new.code ≡ with_instr c.args.at.0
    (CmpSet c.condition_of.result target c.args.left c.args.right) (with_variable Plain old) =
    c.in_ok-put.ensures ∙ ap (with_instr c.args.at.0
    (CmpSet c.condition_of.result target c.args.left c.args.right)) c.in_ok-target.ensures.made
    in
    subst (λ (z : VProc). ReadsOperands c.args.first c.args.at.0 old z c.args.left.0 c.args.right.0
    target.0) (sym made)
    (relation_publishes c.args.first c.args.at.0 old c.requires.is_open c.condition_of.result target
    c.args.left c.args.right)

pub returns-clause-counts : goal.returns-clause-counts
returns-clause-counts c =
    let old = c.args.code.now in
    let target = c.in_ok-target.target in
    let i = CmpSet c.condition_of.result target c.args.left c.args.right in
    let made : c.put.new.code ≡ with_instr c.args.at.0 i (with_variable Plain old) =
    c.in_ok-put.ensures ∙ ap (with_instr c.args.at.0 i) c.in_ok-target.ensures.made in
    subst (λ (z : VProc). AddsAtMost 1 1 0 0 old z) (sym made)
    (set_adds c.args.at.0 i old c.requires.is_open)
