use Rattle.std.proofs.Common.{get_or, arith}
use Rattle.pra_list.proofs.Truths.{true_false}
use Rattle.vc_live.proofs.Steps.{no_role, named_at}
use Rattle.vc_live.proofs.SizedLemmas.{one_more_read, of_each, granted, refused}
use Rattle.vc_valid.specs.Rules.{IsConstantOf}
use Rattle.vc_valid.proofs.Roles.{of_roles}
use Rattle.vc_valid.proofs.instructions.avoid_constants.Goals as goal

pub returns-then-is_constant : goal.returns-then-is_constant
returns-then-is_constant c = refused (λ avoid.
    let roles = c.args.roles.now in
    let k = c.loop-role.role-index in
    avoid (get_or roles k no_role).var.0 (named_at roles k no_role c.loop-role-test.true)
    (c.is_constant.ensures.0 c.if-is_constant.true))

pub loop-role-preserved : goal.loop-role-preserved
loop-role-preserved c =
    one_more_read (λ r. IsConstantOf c.args.vars.now r.var.0 → ⊥) c.args.roles.now
    c.loop-role.role-index no_role c.loop-role.invariant c.loop-role-test.true
    (λ constant. true_false c.is_constant.result (c.is_constant.ensures.1 constant)
    c.if-is_constant.false)

pub returns : goal.returns
returns c =
    granted (of_roles (λ v. IsConstantOf c.args.vars.now v → ⊥) c.args.roles.now
    (of_each (λ r. IsConstantOf c.args.vars.now r.var.0 → ⊥) c.args.roles.now c.loop-role.role-index
    c.loop-role.invariant (omega arith)))
