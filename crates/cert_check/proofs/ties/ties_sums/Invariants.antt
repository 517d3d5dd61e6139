use Rattle.std.proofs.Common.{◌≡◌, ◌+◌, ◌*◌, ◌<◌, ℕ, pos, length, take}
use Rattle.std.specs.Prelude.{slice_index_or}
use Rattle.net_form.specs.Rooms.{tie_numbers}
use Rattle.cert_check.specs.Tolls.{ties_sum, AreSumsWithin}
use Rattle.cert_check.proofs.ties.ties_sums.Given as goal

abbrev pub invariant-loop-tie : goal.invariant-loop-tie
invariant-loop-tie l = record {
  count : length l.sums.items ≡ tie_numbers * length l.net.strands;
  each : (s j : ℕ) → s < length l.net.strands → j < tie_numbers →
      slice_index_or l.sums.items (tie_numbers * s + j) (pos 0)
      ≡ ties_sum (take l.tie l.net.ties) l.prices l.end s j;
  within : AreSumsWithin l.tie l.sums.items;
}
