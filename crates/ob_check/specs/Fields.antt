-- A record type, from the lists of its fields.
use Rattle.std.specs.Prelude.{ℕ, List, map}
use Rattle.ob_syntax.specs.declared.tree.NameList.{NameList}
use Rattle.ob_syntax.specs.declared.tree.TypeForm.{TypeForm-F}
use Rattle.ob_syntax.specs.Names.{Judged, Place}
use Rattle.ob_syntax.specs.Types.{type_form, fields_of}

abbrev pub record_at : Place → List NameList → Judged (Place × ℕ)
record_at p lists = type_form (TypeForm-F.Record (map fields_of lists)) p
