use Rattle.std.proofs.Common.{◌≡◌, true, rules}
use Rattle.cert_form.proofs.ObjectsTaken.{object_taken}
use Rattle.cert_form.proofs.objects.object.Goals as goal

pub returns : goal.returns
returns g c =
    let taken : c.in_ok-begins_object.field-0 ≡ true = search rules in
    object_taken g.F.Fields.keys g.F.Fields.held c.members.new.fields c.args.depth
    c.args.reader.now c.in_ok-begins_object.field-0 c.begins_object.new.reader c.members.new.reader
    c.members.result taken c.in_ok-begins_object.ensures c.members.ensures
