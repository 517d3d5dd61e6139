use Rattle.std.proofs.Common.{◌≡◌, ◌≤◌, ◌-◌}
use Rattle.pra_base.specs.System.{run}
use Rattle.pra_base.specs.declared.code.VModule.{VModule}
use Rattle.vc_code.specs.Selected.{selected, start}
use Rattle.vc_run.specs.Procs.{procs_of}
use Rattle.vc_run.specs.Run.{advance, ran}
use Rattle.vc_run.specs.Stands.{state_of}
use Rattle.vc_run.proofs.run.run_code.Given as goal

-- the steps that are left, from where the machine stands, are all steps from the start
abbrev pub invariant-loop-made : goal.invariant-loop-made
invariant-loop-made l =
    let m = selected (procs_of l.fn.codes) l.fn.frames in
    let code : VModule = record { procs = procs_of l.fn.codes; data_words = l.fn.data_words } in
    (l.run.below.frames ≡ l.fn.frames)
    × (l.made ≤ l.fn.steps)
    × (run (advance m) (l.fn.steps - l.made) (record { state = state_of l.run; steps = l.made }) ≡
    ran m (start code l.fn.input) l.fn.steps)

abbrev pub decreases-loop-made : goal.decreases-loop-made
decreases-loop-made l = l.fn.steps - l.made
