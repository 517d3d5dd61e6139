use Rattle.std.proofs.Common.{ap}
use Rattle.pra_base.specs.declared.code.Block.{Block}
use Rattle.pra_base.specs.Code.{no_block}
use Rattle.vc_run.proofs.Totals.{past_is}
use Rattle.vc_run.proofs.machine.perform.end.Goals as goal

pub returns-in-None : goal.returns-in-None
returns-in-None c = ap (λ (b : Block). b.end)
    (past_is c.args.code.now.blocks c.args.block.0 no_block c.in-None.ensures.value)
