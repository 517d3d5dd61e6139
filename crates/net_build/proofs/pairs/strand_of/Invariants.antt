use Rattle.std.proofs.Common.{◌≡◌, ◌<◌, ◌≤◌, ◌-◌, ℕ, false, length, get_or}
use Rattle.net_form.specs.declared.net.Strand.{Strand}
use Rattle.net_form.specs.Network.{stands_for}
use Rattle.net_build.proofs.pairs.strand_of.Given as goal

abbrev pub invariant-loop-at : goal.invariant-loop-at
invariant-loop-at l = record {
  within : l.at ≤ length l.strands;
  others : (k : ℕ) (d : Strand) → k < l.at → stands_for l.var l.block l.layer
      (get_or l.strands k d) ≡ false;
}

abbrev pub decreases-loop-at : goal.decreases-loop-at
decreases-loop-at l = length l.strands - l.at
