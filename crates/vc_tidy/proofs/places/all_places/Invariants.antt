use Rattle.std.proofs.Common.{◌≡◌, length}
use Rattle.vc_tidy.proofs.Noted.{NotesBlocks}
use Rattle.vc_tidy.proofs.places.all_places.Given as goal

abbrev pub invariant-loop : goal.invariant-loop
invariant-loop l = length l.lists.items ≡ l.counter

abbrev pub invariant-loop-b : goal.invariant-loop-b
invariant-loop-b l = record {
  count : length l.lists.items ≡ length l.code.vars;
  noted : NotesBlocks l.lists.items l.code l.b;
}
