use Rattle.std.proofs.Common.{to_z-of_z}
use Rattle.vc_select.proofs.index.put_check.Goals as goal

pub returns : goal.returns
returns c = let fits = c.ranges.bound in (simp to_z-of_z at c.in_ok-put.ensures)
