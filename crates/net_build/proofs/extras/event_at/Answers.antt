use Rattle.std.proofs.Common.{◌∙◌, sym, ap}
use Rattle.pra_base.specs.declared.code.VarKind.{VarKind}
use Rattle.pra_base.specs.Code.{kind_of}
use Rattle.net_form.specs.Network.{event_at}
use Rattle.net_form.specs.Tables as tables
use Rattle.net_build.specs.ExtraColumns.{columns_of}
use Rattle.net_build.proofs.extras.event_at.Goals as goal

pub returns-in-Const : goal.returns-in-Const
returns-in-Const c =
    c.constant_event.ensures
    ∙ ap (λ (k : VarKind). tables.constant_event k (columns_of c.extra_columns_of-extra.result))
    c.kind_of.ensures
    ∙ ap (tables.constant_event (kind_of c.args.code.now c.args.var))
    c.extra_columns_of-extra.ensures
    ∙ sym (ap (event_at tables.all_tables c.args.code.now c.args.var c.args.instr.now)
    c.in-Const.is)
