use Rattle.std.proofs.Common.{ℕ, pos, ◌≡◌, ◌<◌, ◌*◌, ◌^◌, ◌+ℤ◌, ◌≤ℤ◌}
use Rattle.std.specs.List.{range_with_len}
use Rattle.net_cost.specs.Models.{weights_of}
use Rattle.net_dual.specs.Priced.{total, edge_price}
use Rattle.net_dual.specs.Paths.{IsLeast, Anywhere, any_ends, path_price, path_in}
use Rattle.net_path.specs.Desk.{IsReservedFor, path_of}
use Rattle.net_price.proofs.value.lagrange.Given as goal

abbrev pub invariant-loop-strand : goal.invariant-loop-strand
invariant-loop-strand g l = record {
  path : path_of l.work ≡ path_of l.initial.work;
  reserved : IsReservedFor l.net l.work;
  least : (s : ℕ) → s < l.strand →
      IsLeast l.net (edge_price l.net (weights_of l.model) l.prices) any_ends Anywhere s
      (path_in l.work.family s);
  total : l.total
      ≡ total
      (λ s. path_price l.net (edge_price l.net (weights_of l.model) l.prices) s
      (path_in l.work.family s))
      (range_with_len 0 l.strand);
  low : pos 0 ≤ℤ (l.total +ℤ pos (2 ^ 63 * l.strand));
  high : l.total ≤ℤ pos (2 ^ 63 * l.strand);
}
