use Rattle.std.proofs.Common.{◌≡◌, length}
use Rattle.vc_tidy.specs.Thinned.{ThinsAll}
use Rattle.vc_tidy.proofs.dead.thin_blocks.Given as goal

abbrev pub invariant-loop : goal.invariant-loop
invariant-loop l = length l.marks.items ≡ l.counter

abbrev pub invariant-loop-b : goal.invariant-loop-b
invariant-loop-b l = record {
  count : length l.marks.items ≡ length l.code.vars;
  thins : ThinsAll l.liveness l.code.blocks l.blocks.items l.b;
}
