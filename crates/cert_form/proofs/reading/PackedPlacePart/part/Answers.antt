use Rattle.std.proofs.Common.{◌≡◌, true, rules}
use Rattle.cert_form.specs.Form.{list, path_data}
use Rattle.cert_form.specs.Found.{ArePaths}
use Rattle.cert_form.proofs.ItemsTaken.{list_taken}
use Rattle.cert_form.proofs.reading.PackedPlacePart.part.Goals as goal

pub returns : goal.returns
returns c =
    let taken : c.in_ok-begins_list.field-0 ≡ true = search rules in
    list_taken (list path_data) ArePaths c.args.depth c.in_ok-begins_list.field-0
    c.args.reader.now c.begins_list.new.reader c.paths_left.result c.paths_left.new.reader taken
    c.in_ok-begins_list.ensures c.paths_left.ensures
