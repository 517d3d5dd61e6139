use Rattle.ia_code.proofs.Listings.{decoded_at_place}
use Rattle.ia_code.proofs.laws.each_at_its_place.Goals as goal

pub returns : goal.returns
returns c = decoded_at_place
