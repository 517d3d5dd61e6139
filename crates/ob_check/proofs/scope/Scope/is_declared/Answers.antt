use Rattle.std.proofs.Common.{◌∙◌, sym}
use Rattle.ob_check.proofs.Keys.{declared_lookup}
use Rattle.ob_check.proofs.scope.Scope.is_declared.Goals as goal

pub returns : goal.returns
returns c =
    rw (← c.self.view_is)
    (c.contains_key.ensures ∙ sym (declared_lookup c.args.name.now c.self.inside.names.entries))
