use Rattle.std.proofs.Common.{sym, ap, ◌∙◌, subst}
use Rattle.std.proofs.lemmas.List.{get_or_read}
use Rattle.pra_base.specs.Code.{kind_of}
use Rattle.pra_base.specs.declared.ids.VarId.{VarId}
use Rattle.pra_base.specs.declared.code.VarKind.TheVariants.{Plain}
use Rattle.vc_expr.specs.Operators.{Operates}
use Rattle.vc_expr.specs.Readable.{ReadsOperands}
use Rattle.vc_expr.proofs.division.select_division.Goals as goal

pub select_by_power-requires-clause-kind : goal.select_by_power-requires-clause-kind
select_by_power-requires-clause-kind c =
    let old = c.args.code.now in
    ap (λ (v : VarId). kind_of old v.0) c.in-Some.ensures.divisor
    ∙ sym (get_or_read old.vars c.args.right.0 c.index.result.now c.requires.right c.index.ensures
    Plain) ∙ c.in-Some.ensures.kind

pub returns-in_ok-exact-in-Some-clause-operates : goal.returns-in_ok-exact-in-Some-clause-operates
returns-in_ok-exact-in-Some-clause-operates c =
    subst (λ (v : VarId). Operates c.args.op c.args.first c.args.at.0 c.args.code.now
    c.select_by_power.new.code c.args.left.0 v.0 c.in_ok-exact-in-Some.exact.0)
    c.in-Some.ensures.divisor c.in_ok-exact-in-Some.ensures.operates

pub returns-in_ok-exact-in-Some-clause-reads : goal.returns-in_ok-exact-in-Some-clause-reads
returns-in_ok-exact-in-Some-clause-reads c = λ apart.
    subst (λ (v : VarId). ReadsOperands c.args.first c.args.at.0 c.args.code.now
    c.select_by_power.new.code c.args.left.0 v.0 c.in_ok-exact-in-Some.exact.0)
    c.in-Some.ensures.divisor c.in_ok-exact-in-Some.ensures.reads
