use Rattle.pra_report.proofs.Totals.{many_have_totals}
use Rattle.pra_report.proofs.laws.many_have_totals.Goals as goal

pub returns : goal.returns
returns c = many_have_totals
