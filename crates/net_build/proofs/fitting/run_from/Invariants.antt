use Rattle.std.proofs.Common.{◌+◌, ◌-◌, ◌≡◌, ◌≤◌}
use Rattle.net_form.specs.Strands.{layer_count, run_from}
use Rattle.net_form.specs.Tables.{all_tables}
use Rattle.vc_live.specs.Rows.{live_at}
use Rattle.net_build.proofs.fitting.run_from.Given as goal

-- what is counted, joined with what is left, is the whole
abbrev pub invariant-loop-layer : goal.invariant-loop-layer
invariant-loop-layer l = record {
  whole : (l.layer - l.first) + run_from all_tables l.code (live_at l.live) l.var l.block l.layer ≡
      run_from all_tables l.code (live_at l.live) l.var l.block l.first;
  from : l.first ≤ l.layer;
  within : l.layer ≤ l.end;
  end : l.end ≡ layer_count l.code l.block;
}

abbrev pub decreases-loop-layer : goal.decreases-loop-layer
decreases-loop-layer l = l.end - l.layer
