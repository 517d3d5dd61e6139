use Rattle.std.proofs.Common.{◌∙◌, ap}
use Rattle.vc_code.specs.Machine.{view}
use Rattle.vc_code.specs.Selected.{selected, start}
use Rattle.vc_run.specs.Run.{begin, ran}
use Rattle.vc_run.proofs.RanSteps.{state_is, end_is}
use Rattle.vc_run.proofs.laws.runs_are_vrun.Goals as goal

pub returns-clause-state : goal.returns-clause-state
returns-clause-state c m s n = state_is m n (begin s)

pub returns-clause-told : goal.returns-clause-told
returns-clause-told c code frames input n =
    let m = selected code.procs frames in
    let r = ran m (start code input) n in
    ap (λ e. record { ending = e; events = r.state.events; taken = r.state.taken })
    (end_is m r.state r.state.over)
    ∙ ap view (state_is m n (begin (start code input)))
