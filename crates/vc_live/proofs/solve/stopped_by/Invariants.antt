use Rattle.std.proofs.Common.{◌≡◌, ℕ, length, take}
use Rattle.vc_live.specs.Sets.{contains}
use Rattle.vc_live.specs.Spreading.{stops_at}
use Rattle.vc_live.proofs.solve.stopped_by.Given as goal

abbrev pub invariant-loop-instr : goal.invariant-loop-instr
invariant-loop-instr l = record {
  words : length l.set ≡ length l.constants;
  members : (v : ℕ) → contains l.set v ≡
      stops_at (contains l.constants) (take l.instr-index l.code) v;
}
