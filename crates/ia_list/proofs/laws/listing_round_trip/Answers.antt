use Rattle.ia_list.proofs.TextsOnce.{listed_assembles, assembled_lists}
use Rattle.ia_list.proofs.laws.listing_round_trip.Goals as goal

pub returns-clause-back : goal.returns-clause-back
returns-clause-back c = listed_assembles

pub returns-clause-again : goal.returns-clause-again
returns-clause-again c = assembled_lists
