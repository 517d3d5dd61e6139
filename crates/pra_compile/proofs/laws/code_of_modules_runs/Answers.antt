use Rattle.pra_compile.proofs.Built.{runs_valid, module_runs, tidied_codes}
use Rattle.pra_compile.proofs.laws.code_of_modules_runs.Goals as goal

pub returns-clause-valid : goal.returns-clause-valid
returns-clause-valid c = λ file is. runs_valid file is

pub returns-clause-runs : goal.returns-clause-runs
returns-clause-runs c = λ program file selectable of. module_runs program file of selectable

pub returns-clause-tidied : goal.returns-clause-tidied
returns-clause-tidied c = λ program file of. tidied_codes program file of
