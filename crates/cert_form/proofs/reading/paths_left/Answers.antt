use Rattle.std.proofs.Common.{◌≡◌, ◌∷◌, [], ◌++◌, List, Some, None, length, refl, sym, ap, ◌∙◌}
use Rattle.std.proofs.Common.{arith, rules}
use Rattle.json.specs.Json.{after_end_array, parse_map}
use Rattle.serde_json.specs.Data.{item}
use Rattle.pra_base.specs.declared.ids.Place.{Place}
use Rattle.cert_form.specs.Form.{list, path_data}
use Rattle.cert_form.specs.Found.{ArePaths}
use Rattle.cert_form.specs.Streams.{values, rests, IsAnswer, IsListAnswer, AreFew, IsAny}
use Rattle.cert_form.proofs.Gathered.{gathered, none_gathered, one_more_part, no_more_part}
use Rattle.cert_form.proofs.Tooks.{failed}
use Rattle.cert_form.proofs.Turns.{rests_over, rests_more, rests_none, values-shorter}
use Rattle.cert_form.proofs.reading.paths_left.Goals as goal

abbrev IsPath : List Place → Type 0
IsPath = AreFew (λ k q. Unit {0}) None

pub returns-in_err-path : goal.returns-in_err-path
returns-in_err-path c =
    let ts = c.paths.reader in
    let going : (after_end_array ts ≡ None) × (c.take_end_array.new.self ≡ ts) = grind arith in
    failed (IsAnswer path_data IsPath) (IsListAnswer (list path_data) ArePaths)
    (values c.args.depth c.take_end_array.new.self) (rests c.args.depth c.args.reader.now)
    c.list.new.reader c.list.new.reader c.in_err-path.field-0.0 c.from_residual.result
    (search rules)
    (λ none. none_gathered path_data (λ n p. IsPath p) None (rests c.args.depth c.args.reader.now)
    c.paths.paths (rests c.args.depth ts) c.paths.invariant (rests_none c.args.depth ts going.0
    (ap (values c.args.depth) (sym going.1) ∙ none))) c.in_err-path.ensures

pub returns-in_err-pass_items : goal.returns-in_err-pass_items
returns-in_err-pass_items c =
    let ts = c.paths.reader in
    let going : (after_end_array ts ≡ None) × (c.take_end_array.new.self ≡ ts) = grind arith in
    let read = c.in_ok-path.ensures in
    failed {A = Unit {0}} IsAny (IsListAnswer (list path_data) ArePaths)
    (rests c.args.depth c.list.new.reader) (rests c.args.depth c.args.reader.now)
    c.pass_items.new.reader c.pass_items.new.reader c.in_err-pass_items.field-0.0
    c.from_residual-in_err-pass_items.result (search rules)
    (λ none. none_gathered path_data (λ n p. IsPath p) None (rests c.args.depth c.args.reader.now)
    c.paths.paths (rests c.args.depth ts) c.paths.invariant
    (rests_more c.args.depth ts read.0 c.list.new.reader going.0
    (ap (values c.args.depth) (sym going.1) ∙ read.1) ∙ ap (parse_map (item read.0)) none))
    c.in_err-pass_items.ensures

pub returns-in_default : goal.returns-in_default
returns-in_default c =
    let ts = c.paths.reader in
    let going : (after_end_array ts ≡ None) × (c.take_end_array.new.self ≡ ts) = grind arith in
    let read = c.in_ok-path.ensures in
    let more = c.in_ok-pass_items.ensures in
    no_more_part path_data (λ n p. IsPath p) None (rests c.args.depth c.args.reader.now)
    c.paths.paths (rests c.args.depth ts) c.paths.invariant (length c.paths.paths)
    c.in_ok-path.field-0 more.0 c.pass_items.new.reader read.0
    (rests c.args.depth c.list.new.reader) refl c.in_default.is read.2
    (rests_more c.args.depth ts read.0 c.list.new.reader going.0
    (ap (values c.args.depth) (sym going.1) ∙ read.1)) more.1

pub paths-smaller : goal.paths-smaller
paths-smaller c =
    let ts = c.paths.reader in
    let going : (after_end_array ts ≡ None) × (c.take_end_array.new.self ≡ ts) = grind arith in
    let read = c.in_ok-path.ensures in
    values-shorter c.args.depth ts c.list.new.reader read.0
    (ap (values c.args.depth) (sym going.1) ∙ read.1)

pub paths-preserved : goal.paths-preserved
paths-preserved c =
    let ts = c.paths.reader in
    let going : (after_end_array ts ≡ None) × (c.take_end_array.new.self ≡ ts) = grind arith in
    let read = c.in_ok-path.ensures in
    let longer : c.push.new.self ≡ c.paths.paths ++ c.in-Some.path ∷ [] = search rules in
    one_more_part path_data (λ n p. IsPath p) None (rests c.args.depth c.args.reader.now)
    c.paths.paths (rests c.args.depth ts) c.paths.invariant (length c.paths.paths)
    c.in_ok-path.field-0 c.in-Some.path c.push.new.self read.0
    (rests c.args.depth c.list.new.reader) refl c.in-Some.is read.2
    (rests_more c.args.depth ts read.0 c.list.new.reader going.0
    (ap (values c.args.depth) (sym going.1) ∙ read.1)) refl longer

pub returns : goal.returns
returns c =
    let ts = c.paths.reader in
    let r = c.take_end_array.new.self in
    let e : after_end_array ts ≡ Some r = grind arith in
    gathered path_data (λ n p. IsPath p) None (rests c.args.depth c.args.reader.now)
    c.paths.paths (rests c.args.depth ts) c.paths.invariant r (rests_over c.args.depth ts r e)
