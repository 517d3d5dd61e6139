use Rattle.std.proofs.Common.{◌∙◌, ap, nat_lt}
use Rattle.pra_list.proofs.Mapped.{any-count}
use Rattle.vc_run.specs.Stuck.{is_nothing}
use Rattle.vc_run.proofs.cause.any_nothing.Goals as goal

pub returns : goal.returns
returns c = ap (nat_lt 0) c.nothings.ensures ∙ any-count is_nothing c.args.held.now
