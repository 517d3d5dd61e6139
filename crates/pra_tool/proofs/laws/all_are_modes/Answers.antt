use Rattle.pra_tool.proofs.AllModes.{all_are_modes}
use Rattle.pra_tool.proofs.laws.all_are_modes.Goals as goal

pub returns : goal.returns
returns c = all_are_modes
