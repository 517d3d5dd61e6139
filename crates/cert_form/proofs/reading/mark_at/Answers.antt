use Rattle.std.proofs.Common.{◌≡◌, ap, ◌∙◌, option_map, rules}
use Rattle.std.specs.Prelude.{slice_get}
use Rattle.cert_form.specs.Streams.{mark_data}
use Rattle.cert_form.proofs.CellsTaken.{items_get}
use Rattle.cert_form.proofs.reading.mark_at.Goals as goal

pub returns : goal.returns
returns c =
    let got : c.copied.result ≡ slice_get c.args.marks.now c.args.at = search rules in
    ap (option_map mark_data) got ∙ items_get mark_data c.args.marks.now c.args.at
