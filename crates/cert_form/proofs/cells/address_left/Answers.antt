use Rattle.std.proofs.Common.{◌≡◌, rules}
use Rattle.cert_form.specs.Streams.{address_in}
use Rattle.cert_form.proofs.CellsTaken.{address_told, no_address_told}
use Rattle.cert_form.proofs.cells.address_left.Goals as goal

pub returns-in-Some-2 : goal.returns-in-Some-2
returns-in-Some-2 c =
    let same : c.address.result ≡ address_in c.in-Some.word.now c.in-Some-2.marks = search rules in
    address_told c.args.depth c.args.reader.now c.first_word.new.reader c.items.new.reader
    c.in_ok-word.field-0 c.in-Some.word c.in_ok-marks-in-Some.field-0 c.in-Some-2.marks
    c.address.result c.in-Some.is c.in_ok-word.ensures c.in-Some-2.is c.in_ok-marks-in-Some.ensures
    same

pub returns-in-None-2 : goal.returns-in-None-2
returns-in-None-2 c =
    no_address_told c.args.depth c.args.reader.now c.first_word.new.reader c.items.new.reader
    c.in_ok-word.field-0 c.in-Some.word c.in_ok-marks-in-Some.field-0 c.in-Some.is
    c.in_ok-word.ensures c.in-None-2.is c.in_ok-marks-in-Some.ensures
