use Rattle.std.proofs.Common.{◌≡◌, length}
use Rattle.vc_tidy.specs.Places.{Keep, NotesBlock}
use Rattle.vc_tidy.proofs.places.note_block.Given as goal

abbrev pub invariant-loop-k : goal.invariant-loop-k
invariant-loop-k l = record {
  count : length l.lists.items ≡ length l.initial.lists.items;
  kept : Keep l.initial.lists.items l.lists.items;
  noted : NotesBlock l.lists.items l.code l.block l.k;
}
