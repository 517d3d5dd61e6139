use Rattle.ia_code.proofs.Listings.{one_listing}
use Rattle.ia_code.proofs.laws.one_listing.Goals as goal

pub returns : goal.returns
returns c = one_listing
