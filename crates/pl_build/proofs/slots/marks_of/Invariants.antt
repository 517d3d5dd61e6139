use Rattle.std.proofs.Common.{◌≡◌, ◌<◌, ◌||◌, ℕ, length, drop}
use Rattle.net_form.specs.Flow.{flow_from}
use Rattle.pl_place.specs.Behind.{in_memory}
use Rattle.pl_routed.specs.Routed.{routed}
use Rattle.pl_build.specs.Slots.{marked}
use Rattle.pl_build.proofs.Marked.{any_comes}
use Rattle.pl_build.proofs.slots.marks_of.Given as goal

abbrev pub invariant-loop-strand : goal.invariant-loop-strand
invariant-loop-strand l = record {
  long : length l.marks ≡ length l.code.vars;
  marks : (v : ℕ) → v < length l.code.vars →
      (marked l.marks v || any_comes l.net v
      (flow_from l.strand (drop l.strand l.net.strands) (drop l.strand l.routes.places)))
      ≡ in_memory (routed l.code l.net l.routes) v;
}
