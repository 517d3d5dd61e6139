use Rattle.std.proofs.Common.{◌≡◌, ℕ, true, ◌⊎◌, length, take}
use Rattle.vc_tidy.specs.Thinned.{is_marked, IsIn}
use Rattle.vc_tidy.proofs.unused.mark_named.Given as goal

abbrev pub invariant-loop-instr : goal.invariant-loop-instr
invariant-loop-instr l = record {
  count : length l.marks.items ≡ length l.initial.marks.items;
  kept : (v : ℕ) → is_marked l.initial.marks.items v ≡ true → is_marked l.marks.items v ≡ true;
  marked : (v : ℕ) → IsIn (take l.instr-index l.code) v → is_marked l.marks.items v ≡ true;
  named : (v : ℕ) → is_marked l.marks.items v ≡ true → (is_marked l.initial.marks.items v ≡ true) ⊎
      IsIn l.code v;
}
