use Rattle.std.proofs.Common.{List, subst}
use Rattle.vc_checks.specs.declared.fact.Fact.{Fact}
use Rattle.vc_checks.specs.Facts.{Entail}
use Rattle.vc_checks.specs.LeftOut.{begins_in}
use Rattle.vc_checks.proofs.Leaving.{leave_by}
use Rattle.vc_checks.proofs.flow.leaves.Goals as goal

pub returns-then-enters : goal.returns-then-enters
returns-then-enters c = λ all.
    let begins = begins_in c.args.begins.now in
    let one = c.in-Branch.one in
    let other = c.in-Branch.other in
    leave_by begins c.args.end c.args.ways.now c.in-Branch.field-0 one other c.in-Branch.is
    (λ kind. subst (λ (facts : List Fact). Entail kind facts (begins one.0))
    c.as_slice-in-Branch.ensures.value (c.enters-in-Branch.ensures c.if-enters.true kind))
    (λ kind. subst (λ (facts : List Fact). Entail kind facts (begins other.0))
    c.as_slice-then-enters.ensures.value (c.enters-then-enters.ensures all kind))
