use Rattle.std.proofs.Common.{◌≡◌, length, take}
use Rattle.vc_tidy.specs.Thinned.{AreMarked, exit_of}
use Rattle.vc_tidy.proofs.marks.mark_exit.Given as goal

abbrev pub invariant-loop-instr : goal.invariant-loop-instr
invariant-loop-instr l = record {
  count : length l.marks.items ≡ length l.initial.marks.items;
  marks : AreMarked l.marks.items (take l.instr-index l.code) (exit_of l.liveness l.block.0 l.code);
}
