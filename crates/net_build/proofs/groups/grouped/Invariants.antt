use Rattle.std.proofs.Common.{ℕ, ◌≡◌, ◌<◌, ◌≤◌, length, get_or}
use Rattle.net_form.specs.declared.net.Strand.{Strand}
use Rattle.net_build.specs.Grouped.{grouped_in}
use Rattle.net_build.proofs.groups.grouped.Given as goal

abbrev pub invariant-loop-strand : goal.invariant-loop-strand
invariant-loop-strand l = record {
  number : l.number ≡ l.strand-index;
  long : length l.strand-items ≡ length l.fn.strands;
  done : (k : ℕ) (d : Strand) → k < l.strand-index → k < length l.fn.strands →
      get_or l.strand-items k d ≡ grouped_in l.groups (k, get_or l.fn.strands k d);
  left : (k : ℕ) (d : Strand) → l.strand-index ≤ k → get_or l.strand-items k d ≡
      get_or l.fn.strands k d;
}
