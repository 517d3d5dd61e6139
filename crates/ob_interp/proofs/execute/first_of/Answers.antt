use Rattle.std.proofs.Common.{◌≡◌, ◌+◌, refl, ap, ◌∙◌, arith, Bor}
use Rattle.ob_syntax.specs.declared.checked.RExpr.{RExpr}
use Rattle.ob_interp.specs.Units.{counted}
use Rattle.ob_interp.specs.Running.{here, weight, weights}
use Rattle.ob_interp.proofs.Remaining.{leads-While, leads-Repeat, weight-Repeat}
use Rattle.ob_interp.proofs.execute.first_of.Goals as goal

pub returns-in-While-clause-leads : goal.returns-in-While-clause-leads
returns-in-While-clause-leads c program frames k calls d =
    let test : Bor RExpr = record {
      ref_ptr = (
        c.args.statement.ref_ptr.0,
        c.args.statement.ref_ptr.1 + 8,
      );
      now = c.in-While.test;
    } in
    ap (λ t. counted program t (here program frames k calls) d) c.in-While.is
    ∙ leads-While program frames k calls d test c.as_slice-in-While.result c.in-While.test
    c.in-While.body refl c.as_slice-in-While.ensures

pub returns-in-Repeat-clause-leads : goal.returns-in-Repeat-clause-leads
returns-in-Repeat-clause-leads c program frames k calls d =
    let test : Bor RExpr = record {
      ref_ptr = (
        c.args.statement.ref_ptr.0,
        c.args.statement.ref_ptr.1 + 32,
      );
      now = c.in-Repeat.test;
    } in
    ap (λ t. counted program t (here program frames k calls) d) c.in-Repeat.is
    ∙ leads-Repeat program frames k calls d c.as_slice-in-Repeat.result test c.in-Repeat.body
    c.in-Repeat.test c.as_slice-in-Repeat.ensures refl

pub returns-in-Repeat-clause-weight : goal.returns-in-Repeat-clause-weight
returns-in-Repeat-clause-weight c =
    let whole : weight c.args.statement.now
    ≡ 3 + weights c.in-Repeat.body = ap weight c.in-Repeat.is
    ∙ weight-Repeat c.in-Repeat.body c.in-Repeat.test in
    let same : weights c.as_slice-in-Repeat.result.now
    ≡ weights c.in-Repeat.body = ap weights c.as_slice-in-Repeat.ensures in
    omega (arith, whole, same)
