use Rattle.std.proofs.Common.{◌∙◌}
use Rattle.ob_check.proofs.Keys.{placed}
use Rattle.ob_check.proofs.place.FieldNames.number_of.Goals as goal

pub returns : goal.returns
returns c =
    rw (← c.self.view_is)
    (c.get_index_of.ensures.index ∙ placed c.args.name.now c.self.inside.names.keys)
