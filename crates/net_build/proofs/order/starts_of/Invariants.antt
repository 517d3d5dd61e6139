use Rattle.std.proofs.Common.{ℕ, ◌≡◌, ◌<◌, ◌≤◌, length, get_or}
use Rattle.net_form.specs.declared.net.Strand.{Strand}
use Rattle.net_build.specs.Order.{AreStarts}
use Rattle.net_build.proofs.order.starts_of.Given as goal

abbrev pub invariant-loop-block : goal.invariant-loop-block
invariant-loop-block l = record {
  count : length l.starts ≡ l.block;
  starts : AreStarts l.strands l.starts;
  from : l.from ≤ length l.strands;
  before : (k : ℕ) (d : Strand) → k < l.from → (get_or l.strands k d).block.0 < l.block;
}
