use Rattle.std.proofs.Common.{◌≡◌, ◌-◌, length}
use Rattle.std.specs.List.{range_with_len, flat_map}
use Rattle.net_form.specs.Strands.{block_strands, strands}
use Rattle.net_form.specs.Tables.{all_tables}
use Rattle.vc_live.specs.Rows.{live_at}
use Rattle.net_build.specs.Fitting.{behind}
use Rattle.net_build.proofs.fitting.pass_all.Given as goal

-- what is left gives what the whole gives
abbrev pub invariant-loop-block : goal.invariant-loop-block
invariant-loop-block l =
    behind (flat_map (block_strands all_tables l.code (live_at l.live))
    (range_with_len l.block (length l.code.blocks - l.block))) l.lists l.next ≡
    behind (strands all_tables l.code (live_at l.live)) l.lists 0
