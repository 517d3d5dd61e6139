use Rattle.std.proofs.Common.{◌≡◌, ◌≤◌, length, drop, reverse}
use Rattle.vc_tidy.specs.Thinned.{AreMarked, Thins, ahead, exit_of}
use Rattle.vc_tidy.proofs.dead.kept_back.Given as goal

abbrev pub invariant-loop-left : goal.invariant-loop-left
invariant-loop-left l = record {
  within : l.left ≤ length l.code;
  count : length l.marks.items ≡ length l.fn.marks.items;
  thins : Thins (exit_of l.liveness l.fn.id.0 l.code) (drop l.left l.code) (reverse l.kept.items);
  marks : AreMarked l.marks.items l.code
      (ahead (reverse l.kept.items) (exit_of l.liveness l.fn.id.0 l.code));
}

abbrev pub decreases-loop-left : goal.decreases-loop-left
decreases-loop-left l = l.left
