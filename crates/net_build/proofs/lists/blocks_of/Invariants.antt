use Rattle.std.proofs.Common.{◌≡◌, map, take}
use Rattle.net_form.specs.Network.{net_block}
use Rattle.net_build.proofs.lists.blocks_of.Given as goal

abbrev pub invariant-loop-block : goal.invariant-loop-block
invariant-loop-block l = l.blocks ≡ map net_block (take l.block l.code.blocks)
