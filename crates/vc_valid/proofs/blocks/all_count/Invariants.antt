use Rattle.pra_base.specs.Valid.{PushesLead, TakesArgs}
use Rattle.vc_live.proofs.SizedLemmas.{Holds}
use Rattle.vc_valid.proofs.blocks.all_count.Given as goal

abbrev pub invariant-loop-block : goal.invariant-loop-block
invariant-loop-block l = Holds (λ b. PushesLead (TakesArgs l.counts) 0 b.code) l.blocks
    l.block-index
