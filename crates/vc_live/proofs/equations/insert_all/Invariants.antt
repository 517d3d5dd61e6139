use Rattle.std.proofs.Common.{◌≡◌, ℕ, ◌||◌, length, take}
use Rattle.vc_live.specs.Sets.{contains}
use Rattle.vc_live.specs.Equations.{named_in}
use Rattle.vc_live.proofs.equations.insert_all.Given as goal

abbrev pub invariant-loop-role : goal.invariant-loop-role
invariant-loop-role l = record {
  words : length l.set ≡ length l.initial.set;
  members : (v : ℕ) → contains l.set v ≡
      (named_in (take l.role-index l.roles) v || contains l.initial.set v);
}
