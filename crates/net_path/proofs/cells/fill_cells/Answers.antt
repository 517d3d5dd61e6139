use Rattle.std.proofs.Common.{◌≡◌, ◌-◌, ◌<◌, length, set, length-set, arith}
use Rattle.net_cost.specs.Models.{weights_of}
use Rattle.net_form.specs.Admitted.{no_strand}
use Rattle.net_path.specs.declared.crossbar.Row.{Row}
use Rattle.net_path.proofs.StagedRows.{cells_one, room_one, cells_two, room_two, cells_three}
use Rattle.net_path.proofs.StagedRows.{all_within}
use Rattle.net_path.proofs.cells.fill_cells.Goals as goal

pub pay_exits-requires-clause-row : goal.pay_exits-requires-clause-row
pay_exits-requires-clause-row g c =
    let net = c.args.net.now in
    let w = weights_of c.args.model.now in
    let n = length c.args.rows.now in
    let some : 0 < n = omega (
      arith,
      c.requires.rows,
      (c.requires.net.formed.strands c.args.strand no_strand c.requires.strand).order,
    ) in
    let size : length c.pay_pairs.new.rows ≡ n = omega arith in
    let one = cells_one net c.requires.net c.args.prices.now
    c.requires.prices w c.requires.kept.valid c.args.strand c.requires.strand c.args.ends
    c.args.taken.now n c.requires.rows c.plain_rows.new.rows c.pay_pairs.new.rows (omega arith)
    c.plain_rows.ensures c.pay_pairs.ensures in
    room_one net c.requires.net c.args.prices.now c.requires.prices w c.requires.kept.valid
    c.args.strand c.requires.strand c.args.ends c.args.taken.now n c.requires.rows
    c.pay_pairs.new.rows one (length c.pay_pairs.new.rows - 1) (omega (arith, some, size))

pub pay_entries-requires-clause-row : goal.pay_entries-requires-clause-row
pay_entries-requires-clause-row g c =
    let net = c.args.net.now in
    let w = weights_of c.args.model.now in
    let n = length c.args.rows.now in
    let some : 0 < n = omega (
      arith,
      c.requires.rows,
      (c.requires.net.formed.strands c.args.strand no_strand c.requires.strand).order,
    ) in
    let size : length c.pay_pairs.new.rows ≡ n = omega arith in
    let one = cells_one net c.requires.net c.args.prices.now
    c.requires.prices w c.requires.kept.valid c.args.strand c.requires.strand c.args.ends
    c.args.taken.now n c.requires.rows c.plain_rows.new.rows c.pay_pairs.new.rows (omega arith)
    c.plain_rows.ensures c.pay_pairs.ensures in
    let k = length c.pay_pairs.new.rows - 1 in
    let two = cells_two net c.requires.net c.args.prices.now c.requires.prices
    w c.requires.kept.valid c.args.strand c.requires.strand c.args.ends c.args.taken.now n
    c.requires.rows c.pay_pairs.new.rows c.pay_exits.new.row k (omega (arith, some, size)) size
    one c.pay_exits.ensures in
    room_two net c.requires.net c.args.prices.now c.requires.prices w c.requires.kept.valid
    c.args.strand c.requires.strand c.args.ends c.args.taken.now n c.requires.rows
    (set c.pay_pairs.new.rows k c.pay_exits.new.row) two 0 some

pub returns-clause-cells : goal.returns-clause-cells
returns-clause-cells g c =
    let net = c.args.net.now in
    let w = weights_of c.args.model.now in
    let n = length c.args.rows.now in
    let some : 0 < n = omega (
      arith,
      c.requires.rows,
      (c.requires.net.formed.strands c.args.strand no_strand c.requires.strand).order,
    ) in
    let size : length c.pay_pairs.new.rows ≡ n = omega arith in
    let one = cells_one net c.requires.net c.args.prices.now
    c.requires.prices w c.requires.kept.valid c.args.strand c.requires.strand c.args.ends
    c.args.taken.now n c.requires.rows c.plain_rows.new.rows c.pay_pairs.new.rows (omega arith)
    c.plain_rows.ensures c.pay_pairs.ensures in
    let k = length c.pay_pairs.new.rows - 1 in
    let two = cells_two net c.requires.net c.args.prices.now c.requires.prices
    w c.requires.kept.valid c.args.strand c.requires.strand c.args.ends c.args.taken.now n
    c.requires.rows c.pay_pairs.new.rows c.pay_exits.new.row k (omega (arith, some, size)) size
    one c.pay_exits.ensures in
    let size2 : length (set c.pay_pairs.new.rows k c.pay_exits.new.row) ≡ n =
    omega (arith, size, length-set {A = Row}) in
    let three = cells_three net c.requires.net c.args.prices.now c.requires.prices
    w c.requires.kept.valid c.args.strand c.requires.strand c.args.ends c.args.taken.now n
    c.requires.rows (set c.pay_pairs.new.rows k c.pay_exits.new.row) c.pay_entries.new.row some
    size2 two c.pay_entries.ensures in
    λ k q lt. three k q (omega (arith, lt, size2, length-set {A = Row}))

pub returns-clause-within : goal.returns-clause-within
returns-clause-within g c =
    let net = c.args.net.now in
    let w = weights_of c.args.model.now in
    let n = length c.args.rows.now in
    let some : 0 < n = omega (
      arith,
      c.requires.rows,
      (c.requires.net.formed.strands c.args.strand no_strand c.requires.strand).order,
    ) in
    let size : length c.pay_pairs.new.rows ≡ n = omega arith in
    let one = cells_one net c.requires.net c.args.prices.now
    c.requires.prices w c.requires.kept.valid c.args.strand c.requires.strand c.args.ends
    c.args.taken.now n c.requires.rows c.plain_rows.new.rows c.pay_pairs.new.rows (omega arith)
    c.plain_rows.ensures c.pay_pairs.ensures in
    let k = length c.pay_pairs.new.rows - 1 in
    let two = cells_two net c.requires.net c.args.prices.now c.requires.prices
    w c.requires.kept.valid c.args.strand c.requires.strand c.args.ends c.args.taken.now n
    c.requires.rows c.pay_pairs.new.rows c.pay_exits.new.row k (omega (arith, some, size)) size
    one c.pay_exits.ensures in
    let size2 : length (set c.pay_pairs.new.rows k c.pay_exits.new.row) ≡ n =
    omega (arith, size, length-set {A = Row}) in
    let three = cells_three net c.requires.net c.args.prices.now c.requires.prices
    w c.requires.kept.valid c.args.strand c.requires.strand c.args.ends c.args.taken.now n
    c.requires.rows (set c.pay_pairs.new.rows k c.pay_exits.new.row) c.pay_entries.new.row some
    size2 two c.pay_entries.ensures in
    all_within net c.requires.net c.args.prices.now c.requires.prices w c.requires.kept.valid
    c.args.strand c.requires.strand c.args.ends c.args.taken.now n c.requires.rows
    (set (set c.pay_pairs.new.rows k c.pay_exits.new.row) 0 c.pay_entries.new.row)
    (omega (arith, size2, length-set {A = Row})) three
