use Rattle.std.proofs.Common.{◌≡◌, ℕ, ◌<◌, true, false, length, Some}
use Rattle.pra_base.specs.declared.code.VInstr.{VInstr}
use Rattle.pra_base.specs.Code.{instr_at}
use Rattle.pra_base.specs.Valid.{Names}
use Rattle.vc_same.specs.Reduction.{IsNamed}
use Rattle.vc_tidy.specs.Thinned.{is_marked}
use Rattle.vc_tidy.proofs.unused.named.Given as goal

abbrev pub invariant-loop : goal.invariant-loop
invariant-loop l = record {
  count : length l.marks.items ≡ l.counter;
  none : (v : ℕ) → is_marked l.marks.items v ≡ false;
}

abbrev pub invariant-loop-b : goal.invariant-loop-b
invariant-loop-b l = record {
  count : length l.marks.items ≡ length l.code.vars;
  marked : (b k v : ℕ) (i : VInstr) → b < l.b → instr_at l.code b k ≡ Some i → Names i v →
      is_marked l.marks.items v ≡ true;
  named : (v : ℕ) → is_marked l.marks.items v ≡ true → IsNamed l.code v;
}
