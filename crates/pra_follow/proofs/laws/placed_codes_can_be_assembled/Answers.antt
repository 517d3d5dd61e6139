use Rattle.pra_follow.proofs.Carriages.{carriage_placed, carriage_small, carriage_few}
use Rattle.pra_follow.proofs.laws.placed_codes_can_be_assembled.Goals as goal

pub returns-clause-placed : goal.returns-clause-placed
returns-clause-placed c = carriage_placed

pub returns-clause-small : goal.returns-clause-small
returns-clause-small c = carriage_small

pub returns-clause-few : goal.returns-clause-few
returns-clause-few c = carriage_few
