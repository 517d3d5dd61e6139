use Rattle.pra_tool.proofs.CodeKept.{applied_meant}
use Rattle.pra_tool.proofs.laws.applied_does_as_meant.Goals as goal

pub returns : goal.returns
returns c = λ asked source input w s words made are.
    applied_meant asked source input w s made words are
