use Rattle.std.proofs.Common.{◌≡◌, ◌≤◌, ◌-◌, length}
use Rattle.std.specs.List.{range_with_len, filter_map}
use Rattle.net_form.specs.Strands.{begun_strand, layer_strands}
use Rattle.net_form.specs.Tables.{all_tables}
use Rattle.vc_live.specs.Rows.{live_at}
use Rattle.net_build.specs.Fitting.{behind}
use Rattle.net_build.proofs.fitting.pass_roles.Given as goal

-- what is left gives what the whole gives
abbrev pub invariant-loop-var : goal.invariant-loop-var
invariant-loop-var l = record {
  whole : behind (filter_map (begun_strand all_tables l.code (live_at l.live) l.block l.layer)
      (range_with_len l.from (length l.code.vars - l.from))) l.lists l.next ≡
      behind (layer_strands all_tables l.code (live_at l.live) l.block l.layer) l.lists l.number;
  within : l.from ≤ length l.code.vars;
  end : l.end ≡ length l.code.vars;
}

abbrev pub decreases-loop-var : goal.decreases-loop-var
decreases-loop-var l = length l.code.vars - l.from
