use Rattle.pra_follow.proofs.Codes.{follows_codes}
use Rattle.pra_follow.proofs.laws.placed_codes_are_followed.Goals as goal

pub returns : goal.returns
returns c = λ module_ cs image valid same are is. follows_codes module_ cs valid same are image is
