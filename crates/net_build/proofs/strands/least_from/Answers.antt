use Rattle.std.proofs.Common.{◌∙◌}
use Rattle.net_build.proofs.Roles.{another}
use Rattle.net_build.proofs.strands.least_from.Goals as goal

pub loop-rest-preserved : goal.loop-rest-preserved
loop-rest-preserved c = record {
  within = c.nearer-least.ensures.within;
  same = λ v from end below.
      let far = c.nearer-least.ensures.below v from end below in
      c.loop-rest.invariant.same v from end far.0
      ∙ another c.loop-rest.rest.now _ v c.in-len1-up.len_at_least far.1;
}
