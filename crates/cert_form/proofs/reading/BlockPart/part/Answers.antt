use Rattle.std.proofs.Common.{◌≡◌, true, rules}
use Rattle.cert_form.specs.Form.{block_data}
use Rattle.cert_form.specs.Whole.{BlockFits}
use Rattle.cert_form.proofs.ItemsTaken.{list_taken}
use Rattle.cert_form.proofs.reading.BlockPart.part.Goals as goal

pub returns : goal.returns
returns c =
    let taken : c.in_ok-begins_list.field-0 ≡ true = search rules in
    list_taken block_data BlockFits c.args.depth c.in_ok-begins_list.field-0
    c.args.reader.now c.begins_list.new.reader c.block_left.result c.block_left.new.reader taken
    c.in_ok-begins_list.ensures c.block_left.ensures
