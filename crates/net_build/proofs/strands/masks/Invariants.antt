use Rattle.std.proofs.Common.{◌-◌, ◌≡◌, ◌≤◌, ◌++◌, true}
use Rattle.net_form.specs.Strands.{layer_count}
use Rattle.vc_live.specs.Rows.{live_at}
use Rattle.net_build.specs.Runs.{run_masks}
use Rattle.net_build.proofs.strands.masks.Given as goal

-- what is done, joined with what is left, is the whole
abbrev pub invariant-loop-layer : goal.invariant-loop-layer
invariant-loop-layer l = record {
  whole : l.masks ++ run_masks l.code (live_at l.live) l.var l.block l.layer ≡
      run_masks l.code (live_at l.live) l.var l.block l.first;
  within : l.layer ≤ l.end;
  end : l.end ≡ layer_count l.code l.block;
  known : l.known ≡ true → live_at l.live l.var l.block l.layer ≡ true;
}

abbrev pub decreases-loop-layer : goal.decreases-loop-layer
decreases-loop-layer l = l.end - l.layer
