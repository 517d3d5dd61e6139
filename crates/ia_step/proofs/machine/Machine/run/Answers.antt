use Rattle.std.proofs.Common.{◌≡◌, ◌+◌, ◌≤◌, ◌⊎◌, false, arith, sym, ap, ◌∙◌, inl, inr, refl}
use Rattle.ia_step.specs.State.{State}
use Rattle.ia_step.specs.Kept.{Kept}
use Rattle.ia_step.specs.Run.{Ran, is_going, noted}
use Rattle.ia_step.proofs.Runs.{stepped, finished, kept_here, on_err}
use Rattle.ia_step.proofs.machine.Machine.run.Goals as goal
use Rattle.ia_step.proofs.machine.Machine.run.Goals.{then-loop-steps-test+else-is_going}
use Rattle.ia_step.proofs.machine.Machine.run.Goals.{else-loop-steps-test}

pub loop-steps-preserved : goal.loop-steps-preserved
loop-steps-preserved c =
    let s = stepped c.args.self.now c.loop-steps.self c.loop-steps.steps c.loop-steps.events
    c.loop-steps.invariant.same c.step-out.new.self c.step-out.result
    (sym c.is_going.ensures ∙ c.if-is_going.true) c.step-out.ensures in
    let events : c.note.new.events ≡ noted c.loop-steps.events c.step-out.result =
    c.in_ok-note.ensures in
    record { within = omega arith; same = rw events s }

pub returns-in_err-note-clause-memory : goal.returns-in_err-note-clause-memory
returns-in_err-note-clause-memory c =
    let s = stepped c.args.self.now c.loop-steps.self c.loop-steps.steps c.loop-steps.events
    c.loop-steps.invariant.same c.step-out.new.self c.step-out.result
    (sym c.is_going.ensures ∙ c.if-is_going.true) c.step-out.ensures in
    on_err _ c.from_residual.result
    (c.loop-steps.steps + 1, omega arith, ap (λ (r : Ran). r.state) (sym s))

pub overflow_sub-result : goal.overflow_sub-result
overflow_sub-result c =
    let later : Kept c.args.self.now c.loop-steps.self c.loop-steps.steps =
    kept_here _ _ c.loop-steps.steps c.loop-steps.events c.loop-steps.invariant.same in
    let a = ap (λ (s : State). s.taken) c.self.view_is in
    let b = ap (λ (s : State). s.taken) c.self-2.view_is in
    omega (arith, later.taken, a, b, c.taken.ensures, c.taken-taken.ensures)

pub overflow_cast-result : goal.overflow_cast-result
overflow_cast-result c =
    let later : Kept c.args.self.now c.loop-steps.self c.loop-steps.steps =
    kept_here _ _ c.loop-steps.steps c.loop-steps.events c.loop-steps.invariant.same in
    let a = ap (λ (s : State). s.taken) c.self.view_is in
    let b = ap (λ (s : State). s.taken) c.self-2.view_is in
    omega (arith, later.few, later.taken, a, b, c.taken.ensures, c.taken-taken.ensures)

pub returns-clause-told : goal.returns-clause-told
returns-clause-told c =
    let ended : (c.args.m ≤ c.loop-steps.steps) ⊎ (is_going c.loop-steps.self.ending ≡ false) =
    elim c.loop-steps-test.branch [
      | then-loop-steps-test+else-is_going w ↦ inr (sym w.is_going.ensures ∙ w.if-is_going.false)
      | else-loop-steps-test w ↦ inl w.loop-steps-test.false
    ] in
    let all = finished c.args.self.now c.loop-steps.self c.loop-steps.steps c.loop-steps.events
    c.loop-steps.invariant.same c.args.m c.loop-steps.invariant.within ended in
    rw (
      all,
      ← c.self-2.view_is,
      ← c.self.view_is,
      c.ending.ensures,
      c.taken.ensures,
      c.taken-taken.ensures,
    ) refl

pub returns-clause-state : goal.returns-clause-state
returns-clause-state c =
    let ended : (c.args.m ≤ c.loop-steps.steps) ⊎ (is_going c.loop-steps.self.ending ≡ false) =
    elim c.loop-steps-test.branch [
      | then-loop-steps-test+else-is_going w ↦ inr (sym w.is_going.ensures ∙ w.if-is_going.false)
      | else-loop-steps-test w ↦ inl w.loop-steps-test.false
    ] in
    let all = finished c.args.self.now c.loop-steps.self c.loop-steps.steps c.loop-steps.events
    c.loop-steps.invariant.same c.args.m c.loop-steps.invariant.within ended in
    ap (λ (r : Ran). r.state) (sym all)
