use Rattle.net_laws.proofs.CleanCopies.{clean_copies}
use Rattle.net_laws.proofs.laws.clean_copies_lose_nothing.Goals as goal

pub returns : goal.returns
returns c = clean_copies
