use Rattle.std.proofs.Common.{◌≡◌, None, ap, ◌∙◌}
use Rattle.json.specs.Json.{parse_map}
use Rattle.serde_json.specs.Data.{no_items, item}
use Rattle.cert_form.specs.Form.{natural, list, instruction_data, end_data}
use Rattle.cert_form.specs.Whole.{IsNatural, EndFits}
use Rattle.cert_form.specs.Streams.{rests}
use Rattle.cert_form.proofs.BlocksTaken.{Code, IsBlock, item_told, no_item_told, other_items}
use Rattle.cert_form.proofs.BlocksTaken.{no_code, whole_block}
use Rattle.cert_form.proofs.reading.block_left.Goals as goal

pub returns-in_default-2 : goal.returns-in_default-2
returns-in_default-2 c =
    let old = c.args.reader.now in
    let mid = c.item.new.reader in
    let left = c.item-2.new.reader in
    let nested = item_told natural IsNatural c.args.depth old mid c.in_ok-nested.field-0
    c.in-Some.nested c.in-Some.is c.in_ok-nested.ensures in
    other_items IsBlock (list instruction_data) Code c.args.depth (rests c.args.depth old)
    (item (natural c.in-Some.nested)) mid left None nested.0
    (no_item_told (list instruction_data) Code c.args.depth mid left c.in_ok-code.field-0
    c.in_default-2.is c.in_ok-code.ensures) (no_code c.in-Some.nested)

pub returns : goal.returns
returns c =
    let n = c.in-Some.nested in
    let code = c.in-Some-2.code in
    let end = c.in-Some-3.end in
    let a = item_told natural IsNatural c.args.depth c.args.reader.now c.item.new.reader
    c.in_ok-nested.field-0 n c.in-Some.is c.in_ok-nested.ensures in
    let b = item_told (list instruction_data) Code c.args.depth c.item.new.reader
    c.item-2.new.reader c.in_ok-code.field-0 code c.in-Some-2.is c.in_ok-code.ensures in
    let d = item_told end_data EndFits c.args.depth c.item-2.new.reader c.item-3.new.reader
    c.in_ok-end.field-0 end c.in-Some-3.is c.in_ok-end.ensures in
    let over = c.in_ok-ends.ensures in
    let none : over.0 ≡ no_items = rw c.if-not-branch.false at over.2 in (
      item (natural n) (item (list instruction_data code) (item (end_data end) over.0)),
      a.0 ∙ ap (parse_map (item (natural n))) (b.0
          ∙ ap (parse_map (item (list instruction_data code))) (d.0
          ∙ ap (parse_map (item (end_data end))) over.1)),
      whole_block n code end over.0 none a.1 b.1 d.1,
    )
