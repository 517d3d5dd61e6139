use Rattle.std.proofs.Common.{◌≡◌, ℕ, length, take, if◌then◌else◌}
use Rattle.vc_live.specs.Equations.{named_in}
use Rattle.vc_tidy.specs.Thinned.{is_marked}
use Rattle.vc_tidy.proofs.marks.mark_all.Given as goal

abbrev pub invariant-loop-role : goal.invariant-loop-role
invariant-loop-role l = record {
  count : length l.marks.items ≡ length l.initial.marks.items;
  marks : (v : ℕ) → is_marked l.marks.items v ≡
      (if named_in (take l.role-index l.roles) v then l.mark else is_marked l.initial.marks.items
      v);
}
