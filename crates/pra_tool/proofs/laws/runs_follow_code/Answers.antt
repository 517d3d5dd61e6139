use Rattle.pra_tool.proofs.CodeKept.{run_follows, compiled_follows, applied_follows}
use Rattle.pra_tool.proofs.laws.runs_follow_code.Goals as goal

pub returns-clause-run : goal.returns-clause-run
returns-clause-run c = λ asked source input w s file reads made.
    run_follows asked source input w s file reads made

pub returns-clause-compiled : goal.returns-clause-compiled
returns-clause-compiled c = λ asked source input w s file words reads made are.
    compiled_follows asked source input w s file words reads made are

pub returns-clause-applied : goal.returns-clause-applied
returns-clause-applied c = λ asked source input w s file words reads made are.
    applied_follows asked source input w s file words reads made are
