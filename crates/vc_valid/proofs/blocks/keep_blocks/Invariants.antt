use Rattle.std.proofs.Common.{ℕ, ◌<◌, length}
use Rattle.pra_base.specs.Code.{block_in}
use Rattle.vc_valid.specs.Rules.{KeepsBlock}
use Rattle.vc_valid.proofs.blocks.keep_blocks.Given as goal

abbrev pub invariant-loop-number : goal.invariant-loop-number
invariant-loop-number l = (b : ℕ) → b < l.number → KeepsBlock (length l.blocks) b
    (block_in l.blocks b)
