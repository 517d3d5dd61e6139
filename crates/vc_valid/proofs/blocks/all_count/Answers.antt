use Rattle.std.proofs.Common.{refl, arith}
use Rattle.pra_base.specs.Valid.{PushesLead, TakesArgs}
use Rattle.vc_live.proofs.SizedLemmas.{of_all, granted}
use Rattle.vc_valid.proofs.blocks.all_count.Goals as goal

pub returns : goal.returns
returns c = granted (of_all (λ b. PushesLead (TakesArgs c.args.counts.now) 0 b.code)
    c.args.blocks.now c.loop-block.block-index c.loop-block.invariant (omega arith) refl)
