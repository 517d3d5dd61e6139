use Rattle.vc_checks.specs.LeftOut.{ThinsAll, begins_in}
use Rattle.vc_checks.proofs.flow.thin_blocks.Given as goal

abbrev pub invariant-loop-b : goal.invariant-loop-b
invariant-loop-b l = ThinsAll l.code (begins_in l.begins) l.blocks.items l.b
