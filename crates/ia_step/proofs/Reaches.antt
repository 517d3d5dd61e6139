-- Several steps in a row that write nothing.
use Rattle.std.proofs.Common.{◌≡◌, ℕ, ◌+◌, List, ap, ◌∙◌, arith}
use Rattle.pra_base.specs.declared.event.OutEvent.{OutEvent}
use Rattle.pra_base.specs.System.{run}
use Rattle.pra_base.proofs.Simulation.{run_more}
use Rattle.ia_step.specs.declared.out.StepOut.{StepOut}
use Rattle.ia_step.specs.declared.out.StepOut.TheVariants as out
use Rattle.ia_step.specs.declared.out.Ending.TheVariants as ending
use Rattle.ia_step.specs.State.{State}
use Rattle.ia_step.specs.Step.{step}
use Rattle.ia_step.specs.Run.{Ran, noted, after, advance_from, advance}

-- one step, whatever it writes
pub advance_step : (s t : State) (o : StepOut) → s.ending ≡ ending.Going →
    ◌≡◌ {A = State × StepOut} (step s) (t, o) → (events : List OutEvent) (n : ℕ) →
    advance (record { state = s; events = events; steps = n }) ≡
    record { state = t; events = noted events o; steps = n + 1 }
advance_step s t o going e events n =
    let r : Ran = record { state = s; events = events; steps = n } in
    ap (advance_from r) going ∙ ap (after r) e

-- k steps lead from s to t
pub record Reaches (k : ℕ) (s t : State) : Type 0 where
  pub by : (events : List OutEvent) (n : ℕ) →
      run advance k (record { state = s; events = events; steps = n }) ≡
      record { state = t; events = events; steps = n + k }

pub reach_none : (s : State) → Reaches 0 s s
reach_none s = record {
  by = λ events n. let z : n ≡ n + 0 = omega arith in
      ap (λ m. let x : Ran = record { state = s; events = events; steps = m } in x) z;
}

pub reach_one : (s t : State) → s.ending ≡ ending.Going → ◌≡◌ {A = State × StepOut} (step s)
    (t, out.Going) → Reaches 1 s t
reach_one s t going e = record { by = advance_step s t out.Going going e }

pub reach_on : (j k : ℕ) (s t u : State) → Reaches j s t → Reaches k t u → Reaches (j + k) s u
reach_on j k s t u a b = record {
  by = λ events n.
      let z : n + j + k ≡ n + (j + k) = omega arith in
      run_more advance j k _ ∙ ap (run advance k) (a.by events n) ∙ b.by events (n + j)
      ∙ ap (λ m. let x : Ran = record { state = u; events = events; steps = m } in x) z;
}
