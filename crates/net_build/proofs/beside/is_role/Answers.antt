use Rattle.std.proofs.Common.{Option, ◌∙◌, ap}
use Rattle.std.specs.List.{list_any}
use Rattle.pra_base.specs.declared.code.VInstr.{VInstr}
use Rattle.pra_base.specs.Operands.{is_role_of, operands}
use Rattle.net_form.specs.Strands.{is_before, roles_beside}
use Rattle.net_build.proofs.beside.is_role.Goals as goal

pub returns-in-Some : goal.returns-in-Some
returns-in-Some c =
    c.has_role_beside.ensures
    ∙ ap (λ (o : Option VInstr). list_any (is_role_of c.args.var)
    (roles_beside (is_before c.args.layer) operands o)) c.in-Some.ensures
