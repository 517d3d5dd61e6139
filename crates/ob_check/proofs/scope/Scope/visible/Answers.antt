use Rattle.std.proofs.Common.{◌∙◌, sym, ap}
use Rattle.std.specs.Option.{option_copied}
use Rattle.ob_check.proofs.Keys.{visible_lookup, flat}
use Rattle.ob_check.proofs.scope.Scope.visible.Goals as goal

pub returns-in-Some : goal.returns-in-Some
returns-in-Some c =
    rw (← c.self.view_is)
    (sym (visible_lookup c.args.name.now c.self.inside.names.entries
    ∙ ap flat (sym c.get.ensures.value ∙ ap option_copied c.in-Some.is)))

pub returns-in-None : goal.returns-in-None
returns-in-None c =
    rw (← c.self.view_is)
    (sym (visible_lookup c.args.name.now c.self.inside.names.entries
    ∙ ap flat (sym c.get.ensures.value ∙ ap option_copied c.in-None.is)))
