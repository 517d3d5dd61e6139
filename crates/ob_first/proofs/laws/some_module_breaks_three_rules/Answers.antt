use Rattle.ob_first.proofs.SampleBreaks.{derived, first, second, third}
use Rattle.ob_first.proofs.laws.some_module_breaks_three_rules.Goals as goal

pub returns-clause-derived : goal.returns-clause-derived
returns-clause-derived c = derived

pub returns-clause-first : goal.returns-clause-first
returns-clause-first c = first

pub returns-clause-others : goal.returns-clause-others
returns-clause-others c = (second, third)
