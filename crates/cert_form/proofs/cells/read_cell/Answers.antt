use Rattle.std.proofs.Common.{◌≡◌, ◌<◌, ◌-◌, [], ◌∷◌, true, false, ap, ◌∙◌, arith, rules}
use Rattle.json.specs.Json.{parse_map}
use Rattle.json.specs.Reads.{token_of}
use Rattle.serde_json.specs.Data.{array}
use Rattle.cert_form.specs.Form.{address_data}
use Rattle.cert_form.specs.Whole.{AddressFits}
use Rattle.cert_form.specs.Streams.{values, rests, is_bracket, IsAnswer, IsListAnswer, cell_data}
use Rattle.cert_form.specs.Streams.{CellFits}
use Rattle.cert_form.proofs.Begun.{begun, no_list}
use Rattle.cert_form.proofs.ItemsTaken.{bracket_is}
use Rattle.cert_form.proofs.Tooks.{failed}
use Rattle.cert_form.proofs.Turns.{values_nothing, values_array, values_no_array}
use Rattle.cert_form.proofs.cells.read_cell.Goals as goal

pub returns-in_default : goal.returns-in_default
returns-in_default c =
    let empty : c.args.reader.now ≡ [] = grind arith in
    ap (values c.args.depth) empty ∙ values_nothing c.args.depth

pub returns-then-not-is_bracket : goal.returns-then-not-is_bracket
returns-then-not-is_bracket c =
    let t = token_of c.in-Some.token in
    let first : c.args.reader.now ≡ t ∷ c.next.new.self = search rules in
    let other : is_bracket t ≡ false = search rules in
    let read = c.in_ok-found.ensures in (
      read.0,
      ap (values c.args.depth) first ∙ read.1,
      c.integer_cell.ensures read.0 (no_list t read.0 other
          (begun c.args.depth t c.next.new.self c.integer_begun.new.reader read.0 read.1)) read.2,
    )

pub returns-then-depth-eq0 : goal.returns-then-depth-eq0
returns-then-depth-eq0 c =
    let t = token_of c.in-Some.token in
    let first : c.args.reader.now ≡ t ∷ c.next.new.self = search rules in
    let is : is_bracket t ≡ true = search rules in
    let none : c.args.depth ≡ 0 = omega arith in
    ap (values c.args.depth) (first ∙ ap (λ k. k ∷ c.next.new.self) (bracket_is t is))
    ∙ values_no_array c.args.depth c.next.new.self none

pub returns-in_err-found-2 : goal.returns-in_err-found-2
returns-in_err-found-2 c =
    let t = token_of c.in-Some.token in
    let first : c.args.reader.now ≡ t ∷ c.next.new.self = search rules in
    let is : is_bracket t ≡ true = search rules in
    let some : 0 < c.args.depth = omega arith in
    failed (IsListAnswer address_data AddressFits) (IsAnswer cell_data CellFits)
    (rests (c.args.depth - 1) c.next.new.self) _ c.address_left.new.reader _
    c.in_err-found-2.field-0.0 c.from_residual-in_err-found-2.result (search rules)
    (λ none. ap (values c.args.depth) (first ∙ ap (λ k. k ∷ c.next.new.self) (bracket_is t is))
    ∙ values_array c.args.depth c.next.new.self some ∙ ap (parse_map array) none)
    c.in_err-found-2.ensures

pub returns : goal.returns
returns c =
    let t = token_of c.in-Some.token in
    let first : c.args.reader.now ≡ t ∷ c.next.new.self = search rules in
    let is : is_bracket t ≡ true = search rules in
    let some : 0 < c.args.depth = omega arith in
    let read = c.in_ok-found-2.ensures in (
      array read.0,
      ap (values c.args.depth) (first ∙ ap (λ k. k ∷ c.next.new.self) (bracket_is t is))
          ∙ values_array c.args.depth c.next.new.self some ∙ ap (parse_map array) read.1,
      c.address_cell.ensures read.0 read.2,
    )
