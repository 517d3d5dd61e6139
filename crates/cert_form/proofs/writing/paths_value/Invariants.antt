use Rattle.std.proofs.Common.{◌≡◌, map, take}
use Rattle.serde_json.specs.View.{view}
use Rattle.cert_form.specs.Form.{path_data}
use Rattle.cert_form.proofs.writing.paths_value.Given as goal

abbrev pub invariant-loop-at : goal.invariant-loop-at
invariant-loop-at l = map view l.values.items ≡ map path_data (take l.at l.paths)
