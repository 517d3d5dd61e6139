use Rattle.std.proofs.Common.{◌≡◌, true, rules}
use Rattle.cert_form.proofs.ItemsTaken.{list_taken}
use Rattle.cert_form.proofs.cells.read_worded.Goals as goal

pub returns : goal.returns
returns g c =
    let taken : c.in_ok-begins_list.field-0 ≡ true = search rules in
    list_taken g.T.Worded.form g.T.Worded.fits c.args.depth c.in_ok-begins_list.field-0
    c.args.reader.now c.begins_list.new.reader c.worded_left.result c.worded_left.new.reader taken
    c.in_ok-begins_list.ensures c.worded_left.ensures
