use Rattle.std.proofs.Common.{◌≡◌, rules}
use Rattle.cert_form.proofs.CellsTaken.{cells_fit_all, no_part_told}
use Rattle.cert_form.proofs.cells.worded_left.Goals as goal

pub part_spelled-requires : goal.part_spelled-requires
part_spelled-requires g c =
    let w = g.T.Worded in
    let same : c.as_slice.result.now ≡ c.in-Some-2.cells = search rules in (
      c.requires,
      rw same (cells_fit_all w.of w.form w.fits w.says w.operands c.requires c.args.depth
          c.args.reader.now c.first_word.new.reader c.items.new.reader c.in_ok-word.field-0
          c.in-Some.word c.in-Some.is c.in_ok-word.ensures c.in_ok-cells-in-Some.field-0
          c.in_ok-cells-in-Some.ensures c.in-Some-2.cells c.in-Some-2.is),
    )

pub returns-in-None-2 : goal.returns-in-None-2
returns-in-None-2 g c =
    let w = g.T.Worded in
    no_part_told w.of w.form w.fits w.says w.operands c.requires c.args.depth c.args.reader.now
    c.first_word.new.reader c.items.new.reader c.in_ok-word.field-0 c.in-Some.word c.in-Some.is
    c.in_ok-word.ensures c.in_ok-cells-in-Some.field-0 c.in_ok-cells-in-Some.ensures c.in-None-2.is
