use Rattle.std.proofs.Common.{◌≡◌, [], ◌∷◌, Some, None, ap, ◌∙◌, arith, rules}
use Rattle.json.specs.Reads.{token_of}
use Rattle.cert_form.specs.Streams.{values, text_in}
use Rattle.cert_form.proofs.CellsTaken.{text_taken, no_text_taken}
use Rattle.cert_form.proofs.Turns.{values_nothing}
use Rattle.cert_form.proofs.cells.word.Goals as goal

pub returns-in_default : goal.returns-in_default
returns-in_default c =
    let empty : c.args.reader.now ≡ [] = grind arith in
    ap (values c.args.depth) empty ∙ values_nothing c.args.depth

pub returns-in-Some-text_in : goal.returns-in-Some-text_in
returns-in-Some-text_in c =
    let t = token_of c.in-Some.token in
    let first : c.args.reader.now ≡ t ∷ c.next.new.self = search rules in
    let is : text_in t ≡ Some c.in-Some-text_in.text.now = search rules in
    text_taken c.args.depth t c.next.new.self c.args.reader.now c.in-Some-text_in.text first is

pub returns-in_ok-pass_begun-in-None : goal.returns-in_ok-pass_begun-in-None
returns-in_ok-pass_begun-in-None c =
    let t = token_of c.in-Some.token in
    let first : c.args.reader.now ≡ t ∷ c.next.new.self = search rules in
    let none : text_in t ≡ None = search rules in
    let read = c.in_ok-pass_begun-in-None.ensures in
    no_text_taken c.args.depth t c.next.new.self c.args.reader.now c.pass_begun.new.reader read.0
    first none read.1
