use Rattle.pra_tool.proofs.RoundTrip.{file_back, text_back}
use Rattle.pra_tool.proofs.laws.listings_come_back.Goals as goal

pub returns-clause-back : goal.returns-clause-back
returns-clause-back c = file_back

pub returns-clause-again : goal.returns-clause-again
returns-clause-again c = text_back
