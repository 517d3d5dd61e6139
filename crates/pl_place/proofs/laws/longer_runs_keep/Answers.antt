use Rattle.vc_code.proofs.LongerRuns as runs
use Rattle.pl_place.specs.Machine.{placed_machine, start}
use Rattle.pl_place.proofs.laws.longer_runs_keep.Goals as goal

pub returns : goal.returns
returns c = λ procs data_words input. runs.longer_runs_keep (placed_machine procs)
    (start procs data_words input)
