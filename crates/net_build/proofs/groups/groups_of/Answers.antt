use Rattle.std.proofs.Common.{◌∙◌, sym}
use Rattle.net_build.specs.Labels.{parent}
use Rattle.net_build.proofs.Joining.{least_below}
use Rattle.net_build.proofs.groups.groups_of.Goals as goal

pub returns-clause-numbered : goal.returns-clause-numbered
returns-clause-numbered c = record {
  down = λ e. least_below c.args.ties.now e (parent c.in_ok-least.least e)
      (c.in_ok-least.ensures.least e);
  count = c.in_ok-tied.ensures.count ∙ sym c.in_ok-least.ensures.count;
  numbers = c.in_ok-numbers.ensures;
}
