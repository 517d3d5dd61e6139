use Rattle.std.proofs.Common.{◌≡◌, length}
use Rattle.vc_live.specs.Sets.{contains}
use Rattle.vc_live.specs.Rows.{AllRows}
use Rattle.vc_live.proofs.liveness.all_rows.Given as goal

abbrev pub invariant-loop-block : goal.invariant-loop-block
invariant-loop-block l = record {
  words : length l.now ≡ length l.initial.now;
  rows : AllRows l.code (contains l.constants) l.entries l.blocks.items l.block-index;
}
