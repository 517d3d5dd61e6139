use Rattle.std.proofs.Common.{◌≡◌, true, false}
use Rattle.pra_base.specs.Operands.{reads, only_writes}
use Rattle.vc_live.proofs.SizedLemmas.{Holds}
use Rattle.vc_valid.proofs.instructions.are_apart.Given as goal

abbrev pub invariant-loop-role : goal.invariant-loop-role
invariant-loop-role l = Holds (λ r. only_writes l.instr r.var.0 ≡ true → reads l.instr r.var.0 ≡
    false) l.roles l.role-index
