use Rattle.std.proofs.Common.{◌≡◌, ℕ, ◌<◌, false}
use Rattle.vc_tidy.specs.Joined.{AreTried}
use Rattle.vc_tidy.specs.Tidy.{NoCopyAt}
use Rattle.vc_tidy.proofs.copies.try_block.Given as goal

abbrev pub invariant-loop-instr : goal.invariant-loop-instr
invariant-loop-instr l = record {
  tried : AreTried l.code l.classes l.now;
  before : l.now ≡ false → l.joined ≡ false;
  none : l.now ≡ false → (k : ℕ) → k < l.instr-index → NoCopyAt l.code l.block k;
}
