use Rattle.std.proofs.Common.{◌≡◌, ◌+◌, drop}
use Rattle.pra_base.specs.Valid.{instruction_count}
use Rattle.ia_sketch.proofs.module.instructions_of.Given as goal

abbrev pub invariant-loop-block : goal.invariant-loop-block
invariant-loop-block l = l.count + instruction_count (drop l.block-index l.blocks) ≡
    instruction_count l.blocks
