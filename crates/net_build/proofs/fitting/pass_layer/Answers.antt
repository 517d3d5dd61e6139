use Rattle.std.proofs.Common.{Option, ap}
use Rattle.pra_base.specs.declared.code.VInstr.{VInstr}
use Rattle.pra_base.specs.Operands.{operands}
use Rattle.net_form.specs.Strands.{is_before, roles_beside}
use Rattle.net_build.proofs.fitting.pass_layer.Goals as goal

pub pass_roles-requires-clause-roles : goal.pass_roles-requires-clause-roles
pass_roles-requires-clause-roles c =
    ap (λ (o : Option VInstr). roles_beside (is_before c.args.layer) operands o) c.in-None.ensures
