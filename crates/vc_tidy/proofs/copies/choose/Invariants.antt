use Rattle.std.proofs.Common.{◌≡◌, ℕ, ◌<◌, false}
use Rattle.vc_tidy.specs.Joined.{AreTried}
use Rattle.vc_tidy.specs.Tidy.{NoCopyAt}
use Rattle.vc_tidy.proofs.copies.choose.Given as goal

abbrev pub invariant-loop-b : goal.invariant-loop-b
invariant-loop-b l = record {
  tried : AreTried l.code l.classes l.joined;
  none : l.joined ≡ false → (b k : ℕ) → b < l.b → NoCopyAt l.code b k;
}
