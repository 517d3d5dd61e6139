use Rattle.std.proofs.Common.{rules}
use Rattle.net_form.specs.Sparse.{flat}
use Rattle.net_form.proofs.tie_numbers.TieNumbers.new.Goals as goal

pub returns : goal.returns
unfolding flat
returns c = search rules
