use Rattle.std.proofs.Common.{length, ◌-◌}
use Rattle.ia_list.proofs.CodeListed.{IsListedTo}
use Rattle.ia_list.proofs.listing.list_text.Given as goal

abbrev pub invariant-lines : goal.invariant-lines
invariant-lines l = IsListedTo l.code l.fn.image.data_words l.place l.text.items

abbrev pub decreases-lines : goal.decreases-lines
decreases-lines l = length l.code - l.place
