use Rattle.std.proofs.Common.{◌∙◌, sym, ap}
use Rattle.ob_check.proofs.Keys.{with_name_entry, shown_as}
use Rattle.ob_check.proofs.scope.Scope.set.Goals as goal

pub returns : goal.returns
returns c =
    rw (← c.self.view_is)
    (ap shown_as c.in_ok-insert.ensures.entries
    ∙ sym (with_name_entry c.args.name c.args.meaning c.self.inside.names.entries))
