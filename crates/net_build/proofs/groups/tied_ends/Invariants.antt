use Rattle.std.proofs.Common.{ℕ, ◌≡◌, false, length, get_or, take}
use Rattle.net_form.specs.Groups.{is_tied}
use Rattle.net_build.proofs.groups.tied_ends.Given as goal

abbrev pub invariant-loop-tie : goal.invariant-loop-tie
invariant-loop-tie l = record {
  count : length l.tied ≡ l.ends;
  marked : (e : ℕ) → get_or l.tied e false ≡ is_tied (take l.tie-index l.ties) e;
}
