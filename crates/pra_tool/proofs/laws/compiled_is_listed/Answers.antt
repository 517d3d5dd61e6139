use Rattle.pra_tool.proofs.RoundTrip.{compiled_is_listed}
use Rattle.pra_tool.proofs.laws.compiled_is_listed.Goals as goal

pub returns : goal.returns
returns c = compiled_is_listed
