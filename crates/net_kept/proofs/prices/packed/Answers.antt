use Rattle.net_kept.proofs.SpreadNumbers.{packed_none}
use Rattle.net_kept.proofs.prices.packed.Goals as goal

pub loop-tie-init : goal.loop-tie-init
loop-tie-init c = rw c.new-entries.ensures.items (packed_none c.ties-ties.result c.args.numbers.now)
