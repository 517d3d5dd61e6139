use Rattle.std.proofs.Common.{List, [], sym, subst}
use Rattle.pra_base.specs.declared.code.Block.{Block}
use Rattle.vc_same.specs.SameRuns.{Preserves}
use Rattle.vc_same.proofs.Valid.{preserves_itself}
use Rattle.vc_checks.specs.LeftOut.{with_blocks}
use Rattle.vc_checks.proofs.Keeping.{preserves}
use Rattle.vc_checks.proofs.Running.{itself}
use Rattle.vc_checks.proofs.leave.leave_out_checks.Goals as goal

pub returns-in-Ok-Some-clause-preserves : goal.returns-in-Ok-Some-clause-preserves
returns-in-Ok-Some-clause-preserves c =
    let code = c.args.code in
    let leaves = rw c.in-Ok-Some.field-0-is at c.in-Ok-Some.ensures in
    subst (λ (blocks : List Block). Preserves code (with_blocks code blocks))
    (sym c.from_vec.ensures)
    (preserves leaves.0 code _ leaves.1
    c.requires.valid c.requires.sized)

pub returns-in-Ok-None-clause-preserves : goal.returns-in-Ok-None-clause-preserves
returns-in-Ok-None-clause-preserves c = preserves_itself c.args.code c.requires.valid
    c.requires.sized

pub returns-in-Ok-None-clause-leaves : goal.returns-in-Ok-None-clause-leaves
returns-in-Ok-None-clause-leaves c = (λ b. [], itself c.args.code)
