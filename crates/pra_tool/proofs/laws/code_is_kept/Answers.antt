use Rattle.pra_tool.proofs.CodeKept.{made_kept, applied_kept}
use Rattle.pra_tool.proofs.laws.code_is_kept.Goals as goal

pub returns-clause-made : goal.returns-clause-made
returns-clause-made c = λ asked source made file reads is.
    made_kept asked source made file reads is

pub returns-clause-applied : goal.returns-clause-applied
returns-clause-applied c = λ asked source input w s file reads made.
    applied_kept asked source input w s file reads made
