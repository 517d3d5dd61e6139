use Rattle.std.proofs.Common.{◌≡◌, ◌++◌, ℕ, length, drop}
use Rattle.net_form.specs.Flow.{flow, flow_from}
use Rattle.net_form.specs.Rooms.{layer_total}
use Rattle.pl_build.specs.Layers.{layer, pairs_into}
use Rattle.pl_build.proofs.layers.layers_of.Given as goal

abbrev pub invariant-loop-strand : goal.invariant-loop-strand
invariant-loop-strand l = record {
  long : length l.layers.items ≡ layer_total l.net.blocks;
  pairs : (n : ℕ) → layer l.layers.items n ++ pairs_into l.code l.net n
      (flow_from l.strand (drop l.strand l.net.strands) (drop l.strand l.routes.places))
      ≡ pairs_into l.code l.net n (flow l.net l.routes);
}
