use Rattle.std.proofs.Common.{◌≡◌, Some, None, rules}
use Rattle.json.specs.Reads.{token_of}
use Rattle.cert_form.specs.Streams.{number_in}
use Rattle.cert_form.proofs.CellsTaken.{number_taken, no_number_taken}
use Rattle.cert_form.proofs.cells.integer_begun.Goals as goal

pub returns-in-Some : goal.returns-in-Some
returns-in-Some c =
    let t = token_of c.args.token in
    let is : number_in t ≡ Some c.in-Some.text.now = search rules in
    number_taken c.args.depth t c.in-Some.text.now c.args.reader.now c.integer_told.result is
    c.integer_told.ensures

pub returns-in_ok-pass_begun-in-None : goal.returns-in_ok-pass_begun-in-None
returns-in_ok-pass_begun-in-None c =
    let t = token_of c.args.token in
    let none : number_in t ≡ None = search rules in
    let read = c.in_ok-pass_begun-in-None.ensures in
    no_number_taken c.args.depth t c.args.reader.now c.pass_begun.new.reader read.0 none read.1
