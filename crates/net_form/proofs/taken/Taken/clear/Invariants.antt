use Rattle.std.proofs.Common.{ℕ, ◌≡◌, ◌<◌, false, length, get_or}
use Rattle.net_form.proofs.taken.Taken.clear.Given as goal

abbrev pub invariant-loop-layer : goal.invariant-loop-layer
invariant-loop-layer l = record {
  long : length l.self.regs ≡ length l.initial.self.regs;
  others : l.self.mems ≡ l.initial.self.mems;
  none : (k : ℕ) → k < l.layer → get_or l.self.regs k 0 ≡ 0;
}

abbrev pub invariant-loop-pair : goal.invariant-loop-pair
invariant-loop-pair l = record {
  long : length l.self.mems ≡ length l.initial.self.mems;
  others : l.self.regs ≡ l.initial.self.regs;
  none : (k : ℕ) → k < l.pair → get_or l.self.mems k false ≡ false;
}
