use Rattle.std.proofs.Common.{length, ◌-◌}
use Rattle.ia_list.proofs.CodeListed.{IsCountedTo}
use Rattle.ia_list.proofs.listing.text_length.Given as goal

abbrev pub invariant-lines : goal.invariant-lines
invariant-lines l = IsCountedTo l.code l.fn.image.data_words l.place l.count

abbrev pub decreases-lines : goal.decreases-lines
decreases-lines l = length l.code - l.place
