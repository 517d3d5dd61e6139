use Rattle.std.proofs.Common.{◌≤◌, subst, sym}
use Rattle.net_cost.specs.Weights.{most_weight}
use Rattle.net_cost.proofs.Powers.{weight_of-le}
use Rattle.net_cost.proofs.model.CostModel.ask.Goals as goal

pub returns-clause-small : goal.returns-clause-small
returns-clause-small g c =
    subst (λ n. n ≤ most_weight)
    (sym (c.requires.kept.answers.answers c.args.event c.args.depth c.function.result
    c.requires.depth c.function.ensures))
    (weight_of-le c.args.self.now.weights c.args.event c.args.depth c.requires.kept.valid
    c.requires.depth)
