use Rattle.std.proofs.Common.{◌≡◌, true, rules}
use Rattle.cert_form.specs.Form.{list}
use Rattle.cert_form.specs.Streams.{AreFew}
use Rattle.cert_form.proofs.ItemsTaken.{list_taken}
use Rattle.cert_form.proofs.lists.list.Goals as goal

pub returns : goal.returns
returns g c =
    let taken : c.in_ok-begins_list.field-0 ≡ true = search rules in
    list_taken (list g.T.Part.form) (AreFew g.T.Part.fits c.args.most) c.args.depth
    c.in_ok-begins_list.field-0 c.args.reader.now c.begins_list.new.reader c.items.result
    c.items.new.reader taken c.in_ok-begins_list.ensures c.items.ensures
