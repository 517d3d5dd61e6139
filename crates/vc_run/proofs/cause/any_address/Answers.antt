use Rattle.std.proofs.Common.{◌∙◌, ap, nat_lt}
use Rattle.pra_list.proofs.Mapped.{any-count}
use Rattle.vc_run.specs.Stuck.{is_address}
use Rattle.vc_run.proofs.cause.any_address.Goals as goal

pub returns : goal.returns
returns c = ap (nat_lt 0) c.addresses.ensures ∙ any-count is_address c.args.held.now
