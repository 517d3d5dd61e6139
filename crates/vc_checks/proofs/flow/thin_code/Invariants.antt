use Rattle.pra_base.specs.Code.{kind_of}
use Rattle.vc_checks.proofs.Walking.{Walked}
use Rattle.vc_checks.proofs.flow.thin_code.Given as goal

abbrev pub invariant-loop-instr : goal.invariant-loop-instr
invariant-loop-instr l = Walked (kind_of l.code) l.initial.known.items l.instrs l.known.items
    l.instr-index l.kept.items
