use Rattle.std.proofs.Common.{◌∙◌, ap, nat_lt}
use Rattle.pra_list.proofs.Mapped.{any-count}
use Rattle.vc_code.specs.Machine.{is_param}
use Rattle.vc_run.proofs.machine.objects.is_named.Goals as goal

pub returns : goal.returns
returns c = ap (nat_lt 0) c.params_of.ensures ∙ any-count (is_param c.args.argument)
    c.args.code.now.vars
