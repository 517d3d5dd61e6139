use Rattle.std.proofs.Common.{◌≡◌, Some, None, sym, ap, ◌∙◌, refl, arith}
use Rattle.json.specs.Json.{after_end_array}
use Rattle.serde_json.specs.Data.{no_items}
use Rattle.cert_form.specs.Streams.{rests}
use Rattle.cert_form.proofs.Gathered.{some_item}
use Rattle.cert_form.proofs.Turns.{rests_over}
use Rattle.cert_form.proofs.lists.ends.Goals as goal

pub returns-then-take_end_array : goal.returns-then-take_end_array
returns-then-take_end_array c =
    let r = c.take_end_array.new.self in
    let e : after_end_array c.args.reader.now ≡ Some r = grind arith in
    (no_items, rests_over c.args.depth c.args.reader.now r e, refl)

pub returns : goal.returns
returns c =
    let ts = c.args.reader.now in
    let going : (after_end_array ts ≡ None) × (c.take_end_array.new.self ≡ ts) = grind arith in
    let read = c.in_ok-pass_items.ensures in
    let e = ap (rests c.args.depth) (sym going.1) ∙ read.1 in
    let i = some_item c.args.depth ts c.pass_items.new.reader read.0 going.0 e in
    (read.0, e, λ none. cc (sym none ∙ i.2))
