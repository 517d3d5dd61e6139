use Rattle.pra_tool.proofs.ApplyAgrees.{carries}
use Rattle.pra_tool.proofs.laws.certificates_are_carried.Goals as goal

pub returns : goal.returns
returns t = λ kind asked source input w s p cert out c made at there carried.
    carries made.sourced.file made.certificate made.compiled made.applied p cert out c at there
    carried
