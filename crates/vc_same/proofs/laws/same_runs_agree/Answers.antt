use Rattle.pra_base.proofs.Carried.{agree}
use Rattle.vc_code.specs.Selected.{vrun, selected, start}
use Rattle.vc_code.proofs.LongerRuns.{longer_runs_keep}
use Rattle.vc_same.specs.SameRuns.{with_proc}
use Rattle.vc_same.proofs.laws.same_runs_agree.Goals as goal

pub returns : goal.returns
returns c = λ old new same module_ p frames input at well.
    let other = with_proc module_ p new in
    agree (vrun module_ frames input) (vrun other frames input)
    (same.carried module_ p frames input at well)
    (longer_runs_keep (selected module_.procs frames) (start module_ input))
    (longer_runs_keep (selected other.procs frames) (start other input))
