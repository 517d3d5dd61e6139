use Rattle.std.proofs.Common.{◌≡◌, ◌+◌, ℕ, pos, length, get_or, vec_capacity}
use Rattle.net_form.proofs.tie_numbers.push_row.Given as goal

abbrev pub invariant-loop : goal.invariant-loop
invariant-loop l = record {
  long : length l.numbers.items ≡ length l.initial.numbers.items + l.counter;
  same : (k : ℕ) → get_or l.numbers.items k (pos 0) ≡ get_or l.initial.numbers.items k (pos 0);
  capacity : vec_capacity l.numbers ≡ vec_capacity l.initial.numbers;
}
