use Rattle.std.proofs.Common.{◌∙◌, ap, nat_lt}
use Rattle.pra_list.proofs.Mapped.{any-count}
use Rattle.pra_base.specs.Operands.{is_role_of}
use Rattle.vc_code.specs.Rows.{roles_of}
use Rattle.vc_code.proofs.row.is_among.Goals as goal

pub returns : goal.returns
returns c = ap (nat_lt 0) c.roles_among.ensures ∙ any-count (is_role_of c.args.var.0)
    (roles_of c.args.roles.now)
