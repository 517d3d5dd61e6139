use Rattle.std.proofs.Common.{◌≡◌, map, take, drop}
use Rattle.serde_json.specs.View.{view}
use Rattle.pra_list.specs.Each.{Each}
use Rattle.cert_form.proofs.writing.list_value.Given as goal

abbrev pub invariant-loop-part : goal.invariant-loop-part
invariant-loop-part g l = record {
  values : map view l.values.items ≡ map g.T.Written.form (take l.part-index l.parts);
  range : Each g.T.Written.fits (drop l.part-index l.parts) → Each g.T.Written.fits l.parts;
}
