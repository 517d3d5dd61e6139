use Rattle.std.proofs.Common.{◌≡◌, Some, None, arith, rules}
use Rattle.json.specs.Json.{after_end_array}
use Rattle.cert_form.proofs.CellsTaken.{first_taken, no_first, other_first, word_not_read}
use Rattle.cert_form.proofs.CellsTaken.{rest_not_read}
use Rattle.cert_form.proofs.cells.first_word.Goals as goal

pub returns-then-take_end_array : goal.returns-then-take_end_array
returns-then-take_end_array c =
    let r = c.take_end_array.new.self in
    let e : after_end_array c.args.reader.now ≡ Some r = grind arith in
    no_first c.args.depth c.args.reader.now r e

pub returns-in_err-word : goal.returns-in_err-word
returns-in_err-word c =
    let ts = c.args.reader.now in
    let going : (after_end_array ts ≡ None) × (c.take_end_array.new.self ≡ ts) = grind arith in
    word_not_read c.args.depth ts c.take_end_array.new.self going c.in_err-word.field-0.0
    c.from_residual.result _ c.word.new.reader (search rules) c.in_err-word.ensures

pub returns-in-Some : goal.returns-in-Some
returns-in-Some c =
    let ts = c.args.reader.now in
    let going : (after_end_array ts ≡ None) × (c.take_end_array.new.self ≡ ts) = grind arith in
    let read = c.in_ok-word.ensures in
    first_taken c.args.depth ts c.take_end_array.new.self going read.0 c.word.new.reader
    c.in-Some.word _ c.in-Some.is read.1 read.2

pub returns-in_err-pass_items-in-None : goal.returns-in_err-pass_items-in-None
returns-in_err-pass_items-in-None c =
    let ts = c.args.reader.now in
    let going : (after_end_array ts ≡ None) × (c.take_end_array.new.self ≡ ts) = grind arith in
    let read = c.in_ok-word.ensures in
    rest_not_read c.args.depth ts c.take_end_array.new.self going read.0 c.word.new.reader
    c.in_err-pass_items-in-None.field-0.0 c.from_residual-in_err-pass_items-in-None.result _
    c.pass_items.new.reader read.1 (search rules) c.in_err-pass_items-in-None.ensures

pub returns-in_ok-pass_items-in-None : goal.returns-in_ok-pass_items-in-None
returns-in_ok-pass_items-in-None c =
    let ts = c.args.reader.now in
    let going : (after_end_array ts ≡ None) × (c.take_end_array.new.self ≡ ts) = grind arith in
    let read = c.in_ok-word.ensures in
    let more = c.in_ok-pass_items-in-None.ensures in
    other_first c.args.depth ts c.take_end_array.new.self going read.0 c.word.new.reader
    c.pass_items.new.reader more.0 _ c.in-None.is read.1 read.2 more.1
