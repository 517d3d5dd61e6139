-- Runs of the machine.
use Rattle.std.specs.Prelude.{ℕ, ℤ, ◌+◌, ◌-◌, Bool, true, false, List, [], ◌∷◌, ◌++◌, Option, Some}
use Rattle.std.specs.Prelude.{None}
use Rattle.pra_base.specs.declared.event.OutEvent.{OutEvent}
use Rattle.pra_base.specs.declared.event.OutEvent.TheVariants as event
use Rattle.pra_base.specs.Agreement.{Progress}
use Rattle.pra_base.specs.System.{run}
use Rattle.pra_base.specs.RunEnd.{RunEnd, Ended, Trapped, Wrong}
use Rattle.ia_code.specs.declared.image.Image.{Image}
use Rattle.ia_step.specs.declared.out.StepOut.{StepOut}
use Rattle.ia_step.specs.declared.out.StepOut.TheVariants.{Wrote, Line}
use Rattle.ia_step.specs.declared.out.Ending.{Ending}
use Rattle.ia_step.specs.declared.out.Ending.TheVariants as ending
use Rattle.ia_step.specs.declared.out.RunOut.{RunOut}
use Rattle.ia_step.specs.State.{State, start}
use Rattle.ia_step.specs.Step.{step}

-- a machine, what it has written since some moment, and how many steps it has made since
pub record Ran : Type 0 where
  pub state : State
  pub events : List OutEvent
  pub steps : ℕ

-- the events with what a step wrote
abbrev pub noted : List OutEvent → StepOut → List OutEvent
noted events (Wrote n) = events ++ event.Number n ∷ []
noted events Line = events ++ event.Line ∷ []
noted events _ = events

abbrev pub begin : State → Ran
begin s = record { state = s; events = []; steps = 0 }

abbrev pub after : Ran → State × StepOut → Ran
after r x = record { state = x.0; events = noted r.events x.1; steps = r.steps + 1 }

abbrev pub is_going : Ending → Bool
is_going ending.Going = true
is_going _ = false

-- one step more, and none of a machine that has ended
abbrev pub advance_from : Ran → Ending → Ran
advance_from r ending.Going = after r (step r.state)
advance_from r _ = r

abbrev pub advance : Ran → Ran
advance r = advance_from r r.state.ending

-- at most m steps from a state
abbrev pub ran : State → ℕ → Ran
ran s m = run advance m (begin s)

-- what is told of a run that began at old
abbrev pub told : State → Ran → RunOut
told old r = record {
  events = r.events;
  ending = r.state.ending;
  steps = r.steps;
  reads = r.state.taken - old.taken;
}

-- Machine run: the result of at most m steps of an image on an input
abbrev pub machine_run : Image → List ℤ → ℕ → RunOut
machine_run image input m = told (start image input) (ran (start image input) m)

-- The same as one of the runs that are compared across the layers: a fault is no ending of a
-- program.
abbrev pub run_end : Ending → Option RunEnd
run_end ending.Going = None
run_end ending.Ended = Some Ended
run_end (ending.Trap k) = Some (Trapped k)
run_end (ending.Fault k) = Some Wrong

abbrev pub view : Ran → Progress OutEvent RunEnd
view r = record { ending = run_end r.state.ending; events = r.events; taken = r.state.taken }

abbrev pub progress : Image → List ℤ → ℕ → Progress OutEvent RunEnd
progress image input m = view (ran (start image input) m)
