use Rattle.std.proofs.Common.{arith, ap, length}
use Rattle.ia_list.proofs.TextsOnce.{one_text}
use Rattle.pra_tool.proofs.listing.listing_of.Goals as goal

pub returns-in-Ok-list_text-clause-few : goal.returns-in-Ok-list_text-clause-few
returns-in-Ok-list_text-clause-few c =
    let counted = c.in-Ok.ensures.count in
    let count = counted.2 in
    let same = ap length (one_text c.in_ok-image.image counted.0 c.in-Ok-list_text.text.items
    counted.1 c.in-Ok-list_text.ensures.text) in
    omega (arith, count, same, c.if-count-gt-MAX_TEXT_BYTES.false)
