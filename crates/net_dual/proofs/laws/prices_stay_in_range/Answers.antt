use Rattle.std.proofs.Common.{sym, subst}
use Rattle.net_form.specs.Flow.{flow}
use Rattle.net_dual.specs.Priced.{AreInRange}
use Rattle.net_dual.specs.Step.{step_of}
use Rattle.net_dual.proofs.Ranges.{zero_in_range, next_in_range, chain_in_range}
use Rattle.net_dual.proofs.laws.prices_stay_in_range.Goals as goal

pub returns-clause-zero : goal.returns-clause-zero
returns-clause-zero c = zero_in_range

pub returns-clause-step : goal.returns-clause-step
returns-clause-step c = λ net family k old new range is. subst (AreInRange net) (sym is)
    (next_in_range net (flow net family) (step_of k) old range)

pub returns-clause-chain : goal.returns-clause-chain
returns-clause-chain c = λ net w chain k prices is at. chain_in_range net w chain is k prices at
