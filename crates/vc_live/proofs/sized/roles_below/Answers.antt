use Rattle.std.proofs.Common.{get_or, arith}
use Rattle.vc_live.proofs.Steps.{no_role, named_none, named_at}
use Rattle.vc_live.proofs.SizedLemmas.{refused, below_more}
use Rattle.vc_live.proofs.sized.roles_below.Goals as goal

pub loop-role-init : goal.loop-role-init
loop-role-init c = λ v named. absurd (let h = named_none v in cc)

pub returns-then-role-count : goal.returns-then-role-count
returns-then-role-count c =
    refused (λ below. let h = below (get_or c.args.roles.now c.loop-role.role-index no_role).var.0
    (named_at c.args.roles.now c.loop-role.role-index no_role c.loop-role-test.true) in omega arith)

pub loop-role-preserved : goal.loop-role-preserved
loop-role-preserved c = below_more c.args.roles.now c.loop-role.role-index c.args.count
    c.loop-role.invariant c.loop-role-test.true (omega arith)
