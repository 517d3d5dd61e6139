use Rattle.std.proofs.Common.{◌≡◌, ◌+◌, drop}
use Rattle.pra_base.specs.Valid.{most_instructions}
use Rattle.pra_base.specs.Valid.{instruction_count}
use Rattle.vc_live.proofs.sized.are_instructions_few.Given as goal

abbrev pub invariant-loop-block : goal.invariant-loop-block
invariant-loop-block l = l.room + instruction_count l.blocks ≡ most_instructions + instruction_count
    (drop l.block-index l.blocks)
