use Rattle.std.proofs.Common.{ap, slice_get}
use Rattle.pra_base.specs.declared.code.Block.{Block}
use Rattle.pra_base.specs.Code.{no_block}
use Rattle.vc_run.proofs.Totals.{past_is}
use Rattle.vc_run.proofs.machine.perform.instruction.Goals as goal

pub returns-in-None-clause-value : goal.returns-in-None-clause-value
returns-in-None-clause-value c = ap (λ (b : Block). slice_get b.code c.args.index)
    (past_is c.args.code.now.blocks c.args.block.0 no_block c.in-None.ensures.value)
