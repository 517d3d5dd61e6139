use Rattle.std.proofs.Common.{ℕ, ◌≡◌, ◌-◌, ◌<◌, ◌≤◌, length, get_or}
use Rattle.net_form.specs.declared.net.Strand.{Strand}
use Rattle.net_build.proofs.order.start_of.Given as goal

abbrev pub invariant-loop-at : goal.invariant-loop-at
invariant-loop-at l = record {
  within : l.at ≤ length l.strands;
  count : l.count ≡ length l.strands;
  before : (k : ℕ) (d : Strand) → k < l.at → (get_or l.strands k d).block.0 < l.block;
}

abbrev pub decreases-loop-at : goal.decreases-loop-at
decreases-loop-at l = length l.strands - l.at
