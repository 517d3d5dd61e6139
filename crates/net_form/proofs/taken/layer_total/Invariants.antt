use Rattle.std.proofs.Common.{◌≡◌, ◌+◌, length}
use Rattle.net_form.specs.Rooms.{layer_total}
use Rattle.net_form.proofs.taken.layer_total.Given as goal

abbrev pub invariant-loop-rest : goal.invariant-loop-rest
invariant-loop-rest l = l.total + layer_total l.rest ≡ layer_total l.net.blocks

abbrev pub decreases-loop-rest : goal.decreases-loop-rest
decreases-loop-rest l = length l.rest
