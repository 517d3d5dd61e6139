use Rattle.std.proofs.Common.{◌≡◌, ◌≤◌, ◌*◌, ◌^◌, take, sum}
use Rattle.cert_check.proofs.value.sum_of.Given as goal

abbrev pub invariant-loop-price : goal.invariant-loop-price
invariant-loop-price l = record {
  total : l.total ≡ sum (take l.price-index l.prices);
  small : l.total ≤ 2 ^ 40 * l.price-index;
}
