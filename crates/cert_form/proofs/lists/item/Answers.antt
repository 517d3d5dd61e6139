use Rattle.std.proofs.Common.{◌≡◌, Some, None, arith, rules}
use Rattle.json.specs.Json.{after_end_array}
use Rattle.cert_form.specs.Streams.{IsAnswer, IsAny}
use Rattle.cert_form.proofs.ItemsTaken.{no_item_left, item_here, other_item, no_value, no_rest}
use Rattle.cert_form.proofs.lists.item.Goals as goal

pub returns-then-take_end_array : goal.returns-then-take_end_array
returns-then-take_end_array g c =
    let r = c.take_end_array.new.self in
    let e : after_end_array c.args.reader.now ≡ Some r = grind arith in
    no_item_left g.T.Part.form (g.T.Part.fits 0) c.args.depth c.args.reader.now r e

pub returns-in_err-part : goal.returns-in_err-part
returns-in_err-part g c =
    let ts = c.args.reader.now in
    let going : (after_end_array ts ≡ None) × (c.take_end_array.new.self ≡ ts) = grind arith in
    no_value g.T.Part.form (g.T.Part.fits 0) c.args.depth ts c.take_end_array.new.self going
    (IsAnswer g.T.Part.form (g.T.Part.fits 0)) c.in_err-part.field-0.0 c.from_residual.result _
    c.part.new.reader (search rules) c.in_err-part.ensures

pub returns-in_err-pass_items : goal.returns-in_err-pass_items
returns-in_err-pass_items g c =
    let ts = c.args.reader.now in
    let going : (after_end_array ts ≡ None) × (c.take_end_array.new.self ≡ ts) = grind arith in
    let read = c.in_ok-part.ensures in
    no_rest g.T.Part.form (g.T.Part.fits 0) c.args.depth ts c.take_end_array.new.self going
    {B = Unit {0}} IsAny read.0 c.part.new.reader c.in_err-pass_items.field-0.0
    c.from_residual-in_err-pass_items.result _ c.pass_items.new.reader read.1 (search rules)
    c.in_err-pass_items.ensures

pub returns-in_default : goal.returns-in_default
returns-in_default g c =
    let ts = c.args.reader.now in
    let going : (after_end_array ts ≡ None) × (c.take_end_array.new.self ≡ ts) = grind arith in
    let read = c.in_ok-part.ensures in
    let more = c.in_ok-pass_items.ensures in
    other_item g.T.Part.form (g.T.Part.fits 0) c.args.depth ts c.take_end_array.new.self going
    read.0 c.part.new.reader c.pass_items.new.reader more.0 _ c.in_default.is read.1 read.2 more.1

pub returns : goal.returns
returns g c =
    let ts = c.args.reader.now in
    let going : (after_end_array ts ≡ None) × (c.take_end_array.new.self ≡ ts) = grind arith in
    let read = c.in_ok-part.ensures in
    item_here g.T.Part.form (g.T.Part.fits 0) c.args.depth ts c.take_end_array.new.self going
    read.0 c.part.new.reader c.in-Some.part _ c.in-Some.is read.1 read.2
