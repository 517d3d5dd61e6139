use Rattle.pra_compile.proofs.GivenLines.{given_totals}
use Rattle.pra_compile.proofs.laws.given_have_totals.Goals as goal

pub returns : goal.returns
returns c = given_totals
