use Rattle.std.proofs.Common.{◌≡◌, true, false, Some, None, length, sym, ap, ◌∙◌, arith, rules}
use Rattle.json.specs.Json.{after_end_array, parse_map}
use Rattle.serde_json.specs.Data.{item}
use Rattle.cert_form.specs.Form.{list}
use Rattle.cert_form.specs.Streams.{values, rests, IsAnswer, IsListAnswer, AreFew, IsAny, is_full}
use Rattle.cert_form.proofs.Gathered.{gathered, none_gathered, too_many, some_item, one_more_part}
use Rattle.cert_form.proofs.Gathered.{no_more_part}
use Rattle.cert_form.proofs.Tooks.{failed}
use Rattle.cert_form.proofs.Turns.{rests_over, rests_more, rests_none, values-shorter}
use Rattle.cert_form.proofs.lists.items.Goals as goal

pub returns-then-is_full : goal.returns-then-is_full
returns-then-is_full g c =
    let ts = c.items.reader in
    let going : (after_end_array ts ≡ None) × (c.take_end_array.new.self ≡ ts) = grind arith in
    let read = c.in_ok-pass_items.ensures in
    let e = ap (rests c.args.depth) (sym going.1) ∙ read.1 in
    let i = some_item c.args.depth ts c.pass_items.new.reader read.0 going.0 e in
    let number = length c.as_slice-number.result.now in
    let long : number ≡ length c.items.found.items = search rules in
    let full : is_full c.args.most number ≡ true = search rules in
    too_many g.T.Part.form g.T.Part.fits c.args.most (rests c.args.depth c.args.reader.now)
    c.items.found.items (rests c.args.depth ts) c.items.invariant read.0 c.pass_items.new.reader
    i.0 i.1 i.2 (ap (is_full c.args.most) (sym long) ∙ full) e

pub returns-in_err-part : goal.returns-in_err-part
returns-in_err-part g c =
    let ts = c.items.reader in
    let going : (after_end_array ts ≡ None) × (c.take_end_array.new.self ≡ ts) = grind arith in
    failed (IsAnswer g.T.Part.form (g.T.Part.fits (length c.as_slice-number.result.now)))
    (IsListAnswer (list g.T.Part.form) (AreFew g.T.Part.fits c.args.most))
    (values c.args.depth c.take_end_array.new.self) (rests c.args.depth c.args.reader.now)
    c.part.new.reader _ c.in_err-part.field-0.0 c.from_residual-in_err-part.result (search rules)
    (λ none. none_gathered g.T.Part.form g.T.Part.fits c.args.most
    (rests c.args.depth c.args.reader.now) c.items.found.items (rests c.args.depth ts)
    c.items.invariant (rests_none c.args.depth ts going.0
    (ap (values c.args.depth) (sym going.1) ∙ none))) c.in_err-part.ensures

pub returns-in_err-pass_items-2 : goal.returns-in_err-pass_items-2
returns-in_err-pass_items-2 g c =
    let ts = c.items.reader in
    let going : (after_end_array ts ≡ None) × (c.take_end_array.new.self ≡ ts) = grind arith in
    let read = c.in_ok-part.ensures in
    failed {A = Unit {0}} IsAny
    (IsListAnswer (list g.T.Part.form) (AreFew g.T.Part.fits c.args.most))
    (rests c.args.depth c.part.new.reader) (rests c.args.depth c.args.reader.now)
    c.pass_items-in_default.new.reader _ c.in_err-pass_items-2.field-0.0
    c.from_residual-in_err-pass_items-2.result (search rules)
    (λ none. none_gathered g.T.Part.form g.T.Part.fits c.args.most
    (rests c.args.depth c.args.reader.now) c.items.found.items (rests c.args.depth ts)
    c.items.invariant (rests_more c.args.depth ts read.0 c.part.new.reader going.0
    (ap (values c.args.depth) (sym going.1) ∙ read.1) ∙ ap (parse_map (item read.0)) none))
    c.in_err-pass_items-2.ensures

pub returns-in_default : goal.returns-in_default
returns-in_default g c =
    let ts = c.items.reader in
    let going : (after_end_array ts ≡ None) × (c.take_end_array.new.self ≡ ts) = grind arith in
    let read = c.in_ok-part.ensures in
    let more = c.in_ok-pass_items-2.ensures in
    let number = length c.as_slice-number.result.now in
    let long : number ≡ length c.items.found.items = search rules in
    no_more_part g.T.Part.form g.T.Part.fits c.args.most (rests c.args.depth c.args.reader.now)
    c.items.found.items (rests c.args.depth ts) c.items.invariant number
    c.in_ok-part.field-0 more.0 c.pass_items-in_default.new.reader read.0
    (rests c.args.depth c.part.new.reader) long c.in_default.is read.2
    (rests_more c.args.depth ts read.0 c.part.new.reader going.0
    (ap (values c.args.depth) (sym going.1) ∙ read.1)) more.1

pub items-smaller : goal.items-smaller
items-smaller g c =
    let ts = c.items.reader in
    let going : (after_end_array ts ≡ None) × (c.take_end_array.new.self ≡ ts) = grind arith in
    let read = c.in_ok-part.ensures in
    values-shorter c.args.depth ts c.part.new.reader read.0
    (ap (values c.args.depth) (sym going.1) ∙ read.1)

pub items-preserved : goal.items-preserved
items-preserved g c =
    let ts = c.items.reader in
    let going : (after_end_array ts ≡ None) × (c.take_end_array.new.self ≡ ts) = grind arith in
    let read = c.in_ok-part.ensures in
    let number = length c.as_slice-number.result.now in
    let long : number ≡ length c.items.found.items = search rules in
    let room : is_full c.args.most number ≡ false = search rules in
    one_more_part g.T.Part.form g.T.Part.fits c.args.most (rests c.args.depth c.args.reader.now)
    c.items.found.items (rests c.args.depth ts) c.items.invariant number
    c.in_ok-part.field-0 c.in-Some.part c.push.new.self.items read.0
    (rests c.args.depth c.part.new.reader) long c.in-Some.is read.2
    (rests_more c.args.depth ts read.0 c.part.new.reader going.0
    (ap (values c.args.depth) (sym going.1) ∙ read.1)) room c.in_ok-push.ensures.items

pub returns : goal.returns
returns g c =
    let ts = c.items.reader in
    let r = c.take_end_array.new.self in
    let e : after_end_array ts ≡ Some r = grind arith in
    let same : c.from_vec.result ≡ c.items.found.items = search rules in
    rw same (gathered g.T.Part.form g.T.Part.fits c.args.most
    (rests c.args.depth c.args.reader.now) c.items.found.items (rests c.args.depth ts)
    c.items.invariant r (rests_over c.args.depth ts r e))
