use Rattle.pra_compile.proofs.GivenLines.{flow_given, cost_given, bound_given}
use Rattle.pra_compile.proofs.laws.given_routes_are_carried.Goals as goal

pub returns-clause-flow : goal.returns-clause-flow
returns-clause-flow t = λ given p named out c own is there.
    flow_given given p named out c is own there

pub returns-clause-cost : goal.returns-clause-cost
returns-clause-cost t = λ given p named out c own is there.
    cost_given given p named out c is own there

pub returns-clause-bound : goal.returns-clause-bound
returns-clause-bound t = λ given p named out c own is there.
    bound_given given p named out c is own there
