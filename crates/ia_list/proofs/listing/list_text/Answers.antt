use Rattle.ia_list.proofs.CodeListed.{listed_on}
use Rattle.ia_list.proofs.listing.list_text.Goals as goal

pub lines-preserved : goal.lines-preserved
lines-preserved c =
    listed_on c.lines.invariant c.in_ok-place.place c.push_next.new.out.items
    c.in_ok-place.ensures
