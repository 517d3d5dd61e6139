use Rattle.vc_select.proofs.Roots.{root_named}
use Rattle.vc_select.proofs.laws.targets_name_locations.Goals as goal

pub returns : goal.returns
returns c = λ g w calls store s r set represents top variables declared. root_named g set w calls
    store s represents top variables r declared
