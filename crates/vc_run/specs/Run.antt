-- Runs of selected code: what so many steps come to, how many were made, and the cause where a run
-- is stuck.
use Rattle.std.specs.Prelude.{ℕ, ◌+◌, ℤ, List, Option, Some, None}
use Rattle.pra_base.specs.Agreement.{Progress}
use Rattle.pra_base.specs.RunEnd.{RunEnd, Ended, Trapped, Wrong}
use Rattle.pra_base.specs.System.{run}
use Rattle.pra_base.specs.declared.event.OutEvent.{OutEvent}
use Rattle.pra_base.specs.declared.code.VModule.{VModule}
use Rattle.vc_code.specs.Machine.{State, Machine, step}
use Rattle.vc_code.specs.Selected.{Vars, selected, start}
use Rattle.vc_run.specs.declared.out.CodeEnding.{CodeEnding}
use Rattle.vc_run.specs.declared.out.CodeEnding.TheVariants as ending
use Rattle.vc_run.specs.declared.out.CodeOut.{CodeOut}
use Rattle.vc_run.specs.Stuck.{cause_of}

-- a machine, and how many steps it has made
pub record Ran : Type 0 where
  pub state : State Vars
  pub steps : ℕ

abbrev pub begin : State Vars → Ran
begin s = record { state = s; steps = 0 }

-- one step more, and none of a machine that is over
abbrev pub advance_from : Machine Vars → Ran → Option RunEnd → Ran
advance_from m r None = record { state = step m r.state; steps = r.steps + 1 }
advance_from m r (Some e) = r

abbrev pub advance : Machine Vars → Ran → Ran
advance m r = advance_from m r r.state.over

-- at most so many steps from a state
abbrev pub ran : Machine Vars → State Vars → ℕ → Ran
ran m s n = run (advance m) n (begin s)

-- ---- what is told of a run

abbrev pub ending_of : Machine Vars → State Vars → Option RunEnd → CodeEnding
ending_of m s None = ending.Going
ending_of m s (Some Ended) = ending.Ended
ending_of m s (Some (Trapped k)) = ending.Trap k
ending_of m s (Some Wrong) = ending.Stuck (cause_of m s)

abbrev pub told : Machine Vars → Ran → CodeOut
told m r = record {
  events = r.state.events;
  ending = ending_of m r.state r.state.over;
  steps = r.steps;
  reads = r.state.taken;
}

-- Code run: what at most n steps of a module come to on an input, with the bytes of the frame of
-- each of its procedures.
abbrev pub code_run : VModule → List ℕ → List ℤ → ℕ → CodeOut
code_run module_ frames input n =
    let m = selected module_.procs frames in told m (ran m (start module_ input) n)

-- The same as one of the runs that are compared across the layers: to be stuck is no ending of a
-- program.
abbrev pub run_end : CodeEnding → Option RunEnd
run_end ending.Going = None
run_end ending.Ended = Some Ended
run_end (ending.Trap k) = Some (Trapped k)
run_end (ending.Stuck c) = Some Wrong

abbrev pub progress : CodeOut → Progress OutEvent RunEnd
progress out = record { ending = run_end out.ending; events = out.events; taken = out.reads }
