use Rattle.std.proofs.Common.{Some, sym, ◌∙◌}
use Rattle.pra_base.specs.Operands.{operands}
use Rattle.net_form.specs.Strands.{is_before, roles_beside}
use Rattle.net_build.proofs.Roles.{unmet}
use Rattle.net_build.proofs.beside.met_beside.Goals as goal

pub returns-else-named : goal.returns-else-named
returns-else-named c =
    sym (unmet c.args.var c.args.own
    (roles_beside (is_before c.args.layer) operands (Some c.args.instr.now))
    (sym c.requires ∙ c.if-named.false))
