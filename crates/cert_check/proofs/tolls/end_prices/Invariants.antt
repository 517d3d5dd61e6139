use Rattle.std.proofs.Common.{◌≡◌, ◌≤◌, ◌*◌, ◌^◌, pos, take}
use Rattle.cert_check.specs.Tolls.{mems_sum}
use Rattle.cert_check.proofs.tolls.end_prices.Given as goal

abbrev pub invariant-loop-pair : goal.invariant-loop-pair
invariant-loop-pair l = record {
  total : pos l.total ≡ mems_sum (take l.pair l.net.pairs) l.prices l.spot.strand l.spot.layer;
  small : l.total ≤ 2 ^ 40 * l.pair;
}
