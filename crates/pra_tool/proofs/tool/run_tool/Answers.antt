use Rattle.pra_tool.proofs.tool.run_tool.Goals as goal

pub returns-clause-promise : goal.returns-clause-promise
returns-clause-promise g c =
    (c.answer-status.result, c.exit_code.ensures, c.answer-status.ensures.promise)
