use Rattle.vc_relation.proofs.Returned.{names_address, address_below}
use Rattle.vc_relation.proofs.laws.var_parameters_have_addresses.Goals as goal

pub returns-clause-named : goal.returns-clause-named
returns-clause-named c = λ t call below store s k proc param represents has by_var. names_address t
    call below store s represents k proc param has by_var

pub returns-clause-below : goal.returns-clause-below
returns-clause-below c = λ t call below store s k proc param x byte represents has by_var at.
    address_below t call below store s represents k proc param has by_var x byte at
