use Rattle.std.proofs.Common.{◌≡◌, ◌++◌, drop, map}
use Rattle.vc_tidy.specs.Joined.{joined_block}
use Rattle.vc_tidy.proofs.join.joined_blocks.Given as goal

abbrev pub invariant-loop-block : goal.invariant-loop-block
invariant-loop-block l = l.blocks.items ++ map (joined_block l.names)
    (drop l.block-index l.code.blocks) ≡ map (joined_block l.names) l.code.blocks
