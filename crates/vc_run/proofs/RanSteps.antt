-- Runs of counted steps: they are runs of the machine, and a run that is over is told as it stands.
use Rattle.std.proofs.Common.{◌≡◌, ℕ, zero, suc, ◌+◌, ◌-◌, ◌<◌, Option, Some, None, Result, Ok, Err}
use Rattle.std.proofs.Common.{IfOk, List, refl, sym, ap, ap₂, ◌∙◌, arith, subst}
use Rattle.pra_base.specs.RunEnd.{RunEnd, Ended, Trapped, Wrong}
use Rattle.pra_base.specs.System.{run}
use Rattle.pra_base.specs.declared.event.OutOfMemory.{OutOfMemory}
use Rattle.vc_code.specs.Machine.{State, Machine, ended, step, act_on}
use Rattle.vc_code.specs.Selected.{Vars}
use Rattle.vc_run.specs.declared.halt.Halt.{Halt}
use Rattle.vc_run.specs.declared.halt.Halt.TheVariants as halt
use Rattle.vc_run.specs.declared.out.CodeOut.{CodeOut}
use Rattle.vc_run.specs.Ending.{Tells, told_at}
use Rattle.vc_run.specs.Run.{Ran, advance, advance_from, ending_of, ran, run_end, told}
use Rattle.vc_run.specs.Stands.{Whole, Performs}

pub if_ok : (r : Result CodeOut OutOfMemory) (a b : CodeOut) → a ≡ b → IfOk r (λ out. out ≡ a) →
    IfOk r (λ out. out ≡ b)
if_ok (Ok out) a b is same = same ∙ is
if_ok (Err e) a b is same = same

none : (r : Result CodeOut OutOfMemory) (b : CodeOut) → IfOk r (λ out. ⊥) →
    IfOk r (λ out. out ≡ b)
none (Ok out) b never = absurd never
none (Err e) b never = never

-- ---- the law

module _ (m : Machine Vars) where
  steps_once : (r : Ran) (o : Option RunEnd) → r.state.over ≡ o →
      (advance_from m r o).state ≡ step m r.state
  steps_once r None is = refl
  steps_once r (Some e) is = sym (ap (λ o. act_on m o r.state) is)

  pub state_is : (n : ℕ) (r : Ran) → (run (advance m) n r).state ≡ run (step m) n r.state
  state_is zero r = refl
  state_is (suc n) r =
      state_is n (advance m r) ∙ ap (run (step m) n) (steps_once r r.state.over refl)

  pub end_is : (s : State Vars) (o : Option RunEnd) → run_end (ending_of m s o) ≡ o
  end_is s None = refl
  end_is s (Some Ended) = refl
  end_is s (Some (Trapped k)) = refl
  end_is s (Some Wrong) = refl

  -- ---- a run that is over

  over_stays : (n : ℕ) (r : Ran) (e : RunEnd) → r.state.over ≡ Some e → run (advance m) n r ≡ r
  over_stays zero r e over = refl
  over_stays (suc n) r e over =
      ap (run (advance m) n) (ap (advance_from m r) over) ∙ over_stays n r e over

  module _ (s first : State Vars) (made steps : ℕ) (going : s.over ≡ None) (room : made < steps)
      (left : run (advance m) (steps - made) (record { state = s; steps = made }) ≡
      ran m first steps) where
    pub one_more : run (advance m) (steps - (made + 1)) (record { state = step m s; steps = made + 1 })
        ≡ ran m first steps
    one_more =
        let count : steps - made ≡ suc (steps - (made + 1)) = omega (arith, room) in
        let here : Ran = record { state = s; steps = made } in
        sym (ap (λ n. run (advance m) n here) count
        ∙ ap (λ o. run (advance m) (steps - (made + 1)) (advance_from m here o)) going)
        ∙ left

    told_is : (e : RunEnd) → step m s ≡ ended s e →
        told_at m s e (made + 1) ≡ told m (ran m first steps)
    told_is e is =
        let there : Ran = record { state = ended s e; steps = made + 1 } in
        ap (told m) (sym (over_stays (steps - (made + 1)) there e refl)
        ∙ ap (λ t. run (advance m) (steps - (made + 1)) (record { state = t; steps = made + 1 }))
        (sym is)
        ∙ one_more)

    module _ (X : Type 0) (M : List ℕ → Machine Vars) (old new : Whole) (same : M old.frames ≡ m)
        (is : old.state ≡ s) (r : Result CodeOut OutOfMemory) where
      back : (h : Halt) → new ≡ old → Tells (M new.frames) new.state h (made + 1) r →
          Tells m s h (made + 1) r
      back h stays says =
          subst (λ n. Tells n s h (made + 1) r) (ap (λ (w : Whole). M w.frames) stays ∙ same)
          (subst (λ t. Tells (M new.frames) t h (made + 1) r)
          (ap (λ (w : Whole). w.state) stays ∙ is) says)

      ends : (e : RunEnd) → step (M old.frames) old.state ≡ ended old.state e →
          told_at m s e (made + 1) ≡ told m (ran m first steps)
      ends e done = told_is e
          (sym (ap₂ (λ n t. step n t) same is) ∙ done ∙ ap (λ t. ended t e) is)

      pub halted : (h : Halt) → Performs {X = X} old new (Err h) (step (M old.frames) old.state) →
          Tells (M new.frames) new.state h (made + 1) r →
          IfOk r (λ out. out ≡ told m (ran m first steps))
      halted halt.Ended done says =
          if_ok r _ _ (ends Ended done.1) (back halt.Ended done.0 says)
      halted (halt.Trap k) done says =
          if_ok r _ _ (ends (Trapped k) done.1) (back (halt.Trap k) done.0 says)
      halted halt.Stuck done says = if_ok r _ _ (ends Wrong done.1) (back halt.Stuck done.0 says)
      halted halt.OutOfMemory done says = none r _ says
