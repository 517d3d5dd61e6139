use Rattle.std.proofs.Common.{◌≡◌, ◌≤◌, ◌-◌, ◌++◌, length}
use Rattle.std.specs.List.{range_with_len, filter_map}
use Rattle.net_form.specs.Strands.{begun_strand}
use Rattle.net_form.specs.Tables.{all_tables}
use Rattle.vc_live.specs.Rows.{live_at}
use Rattle.net_build.proofs.strands.add_roles.Given as goal

abbrev pub invariant-loop-var : goal.invariant-loop-var
invariant-loop-var l = record {
  made : l.out ≡ l.initial.out
      ++ filter_map (begun_strand all_tables l.code (live_at l.live) l.block l.layer)
      (range_with_len 0 l.from);
  within : l.from ≤ length l.code.vars;
  end : l.end ≡ length l.code.vars;
}

abbrev pub decreases-loop-var : goal.decreases-loop-var
decreases-loop-var l = length l.code.vars - l.from
