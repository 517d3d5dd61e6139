use Rattle.pra_compile.proofs.Totals.{have_totals}
use Rattle.pra_compile.proofs.laws.compiled_have_totals.Goals as goal

pub returns : goal.returns
returns c = have_totals
