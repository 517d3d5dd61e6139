use Rattle.std.proofs.Common.{length, ap, arith}
use Rattle.net_form.proofs.SparseNumbers.{length_flat}
use Rattle.net_form.proofs.tie_numbers.TieNumbers.len.Goals as goal

pub returns : goal.returns
returns c =
    let view = ap length c.self.view_is in
    let long = length_flat c.self.inside.rows.items c.self.inside.numbers.items in
    omega (arith, view, long)
