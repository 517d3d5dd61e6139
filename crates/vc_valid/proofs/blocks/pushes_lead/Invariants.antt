use Rattle.std.proofs.Common.{◌+◌, ◌≤◌, ◌↔◌, length}
use Rattle.pra_base.specs.Valid.{PushesLead, TakesAny}
use Rattle.vc_valid.proofs.blocks.pushes_lead.Given as goal

abbrev pub invariant-loop-rest : goal.invariant-loop-rest
invariant-loop-rest l = record {
  asks : PushesLead TakesAny 0 l.code ↔ PushesLead TakesAny l.pushes l.rest;
  few : l.pushes + length l.rest ≤ length l.code;
}

abbrev pub decreases-loop-rest : goal.decreases-loop-rest
decreases-loop-rest l = length l.rest
