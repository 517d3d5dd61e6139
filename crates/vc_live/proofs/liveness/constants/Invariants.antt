use Rattle.std.proofs.Common.{◌≡◌, ℕ, ◌+◌, ◌/◌, ◌<◌, ◌≤◌, false, length}
use Rattle.pra_base.specs.Code.{kind_of}
use Rattle.vc_live.specs.Sets.{contains}
use Rattle.vc_live.specs.Rows.{is_constant}
use Rattle.vc_live.proofs.liveness.constants.Given as goal

abbrev pub invariant-loop-v : goal.invariant-loop-v
invariant-loop-v l = record {
  words : length l.set ≡ length l.code.vars / 64 + 1;
  done : (u : ℕ) → u < l.v → contains l.set u ≡ is_constant (kind_of l.code u);
  left : (u : ℕ) → l.v ≤ u → contains l.set u ≡ false;
}
