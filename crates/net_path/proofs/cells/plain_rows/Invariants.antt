use Rattle.std.proofs.Common.{◌≡◌}
use Rattle.net_cost.specs.Models.{weights_of}
use Rattle.net_form.specs.Ordered.{first_extra}
use Rattle.net_path.specs.Cells.{ArePlainRows}
use Rattle.net_path.specs.Grounds.{layer}
use Rattle.net_path.proofs.cells.plain_rows.Given as goal

abbrev pub invariant-loop-at : goal.invariant-loop-at
invariant-loop-at g l = record {
  extra : l.extra ≡ first_extra l.net l.strand (layer l.net l.strand l.at);
  cells : ArePlainRows l.net (weights_of l.model) l.prices l.ends l.taken l.strand l.at l.rows;
}
